-- Many top-ups, one after another.
use Rattle.std.specs.Prelude.{◌≡◌, ◌⊎◌, ℕ, MatchBool, if◌then◌else◌, List, [], ◌∷◌, ◌++◌, codes, Option, Some}
use Rattle.std.specs.Fmt.{decimal}
use Rattle.std.specs.Io.KnownBytes.{Appends}
use Rattle.dcc_tariff.specs.Terms.{TermsView}
use Rattle.dcc_act.specs.declared.act.Act.{Act}
use Rattle.dcc_act.specs.declared.sub.Sub.{Sub}
use Rattle.dcc_act.specs.TopUps.{is_amount}
use Rattle.dcc_message.specs.declared.identity.Identity.{Identity}
use Rattle.dcc_store.specs.Books.{Held}
use Rattle.dcc_store.specs.Contents.{Content}
use Rattle.dcc_startup.specs.Openings.{IsStarted}
use Rattle.dcc_operator.specs.TopUps.{line_of}
use Rattle.dcc_shard.specs.Stored.{StoredView}
use Rattle.dcc_shard.specs.Answers.{told_after, is_judged_top_up, top_up_act}
use Rattle.dcc_shard.specs.Shards.{held, held_then}
use Rattle.dcc_shard.specs.declared.answers.TopUpAnswer.{TopUpAnswer}
use Rattle.dcc_shard.specs.declared.answers.TopUpAnswer.TheVariants.{BadAmount, Refused}
use Rattle.dcc_operator.specs.declared.commands.TopUpAsk.{TopUpAsk}

-- the act of a top-up
abbrev pub act_of : TopUpAsk → Act
act_of ask = top_up_act ask.moment ask.ticket ask.amount

-- A top-up is answered after these acts of its subscriber: by its outcome, or as refused. If its amount is outside the limits, it is answered
-- as bad.
abbrev pub IsToldBehind : TermsView → List Act → TopUpAsk → TopUpAnswer → Type 0
IsToldBehind terms before ask answer =
    MatchBool (is_amount ask.amount) ((Some answer ≡ told_after terms before (act_of ask)) ⊎ (answer ≡ Refused)) (answer ≡ BadAmount)

-- the held acts behind a top-up with this answer: its act was made if it was judged
abbrev pub held_behind_one : TermsView → TopUpAsk → TopUpAnswer → Held → Held
held_behind_one terms ask answer held = if is_judged_top_up answer then held_then terms ask.sub (act_of ask) held else held

-- There is an answer to each of these top-ups, in order. Each is answered after the acts that are held for its subscriber behind the top-ups
-- before it. The last are the acts that are held behind all of them.
abbrev pub AreToppedUp : TermsView → List TopUpAsk → List TopUpAnswer → Held → Held → Type 0
AreToppedUp terms [] [] held last = (sub : Sub) → last sub ≡ held sub
AreToppedUp terms [] (answer ∷ answers) held last = ⊥
AreToppedUp terms (ask ∷ asks) [] held last = ⊥
AreToppedUp terms (ask ∷ asks) (answer ∷ answers) held last =
    IsToldBehind terms (held ask.sub) ask answer × AreToppedUp terms asks answers (held_behind_one terms ask answer held) last

-- the line of a top-up: its subscriber, its ticket, and the word of its answer
abbrev pub line_for : TopUpAsk → TopUpAnswer → List ℕ
line_for ask answer = decimal ask.sub.kind ++ codes ":" ++ ask.sub.name ++ codes " " ++ decimal ask.ticket ++ codes " " ++ line_of answer

-- the lines of top-ups with these answers, in order
abbrev pub lines_for : List TopUpAsk → List TopUpAnswer → List ℕ
lines_for [] answers = []
lines_for (ask ∷ asks) [] = []
lines_for (ask ∷ asks) (answer ∷ answers) = line_for ask answer ++ lines_for asks answers

-- The top-ups were made in a shard that was opened for the index, of so many: one after another, after the acts that were held at its opening. A writer,
-- before and after, has grown by their lines.
pub record AreToppedUpIn {R : Type 0} (opens : ℕ → R → Type 0) (may_leave : R → Content → Type 0) (terms : TermsView) (identity : Identity) (count index : ℕ)
    (asks : List TopUpAsk) (old new : Option (List ℕ)) : Type 0 where
  pub before : StoredView R
  pub started : IsStarted opens may_leave terms identity count index before
  pub answers : List TopUpAnswer
  pub after : Held
  pub made : AreToppedUp terms asks answers (held before.shard) after
  pub told : Appends old new (lines_for asks answers)
