-- The plans of a batch.
use Rattle.std.specs.Prelude.{◌≡◌, ℕ, ◌≤◌, Bool, true, false, not, ◌&&◌, if◌then◌else◌, MatchBool, List, [], ◌∷◌, map, Option, Some, is_some}
use Rattle.std.specs.List.{AllByRecursion}
use Rattle.dcc_tariff.specs.Terms.{TermsView}
use Rattle.dcc_message.specs.declared.identity.Identity.{Identity}
use Rattle.dcc_act.specs.declared.act.Act.{Act}
use Rattle.dcc_act.specs.declared.outcome.Outcome.{Outcome}
use Rattle.dcc_act.specs.declared.sub.Sub.{Sub}
use Rattle.dcc_account.specs.declared.account.Account.{Account}
use Rattle.dcc_credit.specs.Answers.{answer_octets}
use Rattle.dcc_model.specs.Keys.{ticket, is_expiry}
use Rattle.dcc_model.specs.Outcomes.{after, place, is_new}
use Rattle.dcc_openers.specs.Openers.{OpenersView, KeepsRoom}
use Rattle.dcc_store.specs.Batches.{AdditionView}
use Rattle.dcc_store.specs.Contents.{Content}
use Rattle.dcc_shard.specs.Shards.{ShardView, held, held_in}
use Rattle.dcc_shard.specs.Answers.{answer_at, told, ended, session_of_act, IsRefusedBy}
use Rattle.dcc_shard.specs.Batches.{sub_of, act_of, held_behind, IsReply, AreReplies, is_judged_reply, is_one_judged, IsReplyToldApart, IsReplyBounded, AreKept}
use Rattle.dcc_shard.specs.inner.Books.{BooksView, KeptView, StayApart}
use Rattle.dcc_shard.specs.inner.Indexed.{opening, IsReady}
use Rattle.dcc_shard.specs.inner.Pending.{step_of, IsPending}
use Rattle.dcc_shard.specs.declared.answers.ExpiryAnswer.TheVariants as expiries
use Rattle.dcc_shard.specs.declared.answers.TopUpAnswer.TheVariants as tops
use Rattle.dcc_shard.specs.declared.call.Call.{Call}
use Rattle.dcc_shard.specs.declared.call.Call.TheVariants as calls
use Rattle.dcc_shard.specs.declared.call.Reply.{Reply}
use Rattle.dcc_shard.specs.declared.call.Reply.TheVariants as replies
use Rattle.dcc_shard.specs.declared.plan.Plan.{Plan}
use Rattle.dcc_shard.specs.declared.plan.Plan.TheVariants as plans
use Rattle.dcc_shard.specs.declared.plan.Way.{Way}
use Rattle.dcc_shard.specs.declared.plan.Way.TheVariants as ways

abbrev pub way_of : Call → Way
way_of (calls.Request sub act header proxies) = ways.Request header proxies
way_of (calls.TopUp sub moment ticket amount) = ways.TopUp
way_of (calls.Expiry sub moment) = ways.Expiry

-- the act is one of this kind of call
abbrev pub is_of_way : Way → Act → Bool
is_of_way (ways.Request header proxies) act = true
is_of_way ways.TopUp act = is_some (ticket act.kind)
is_of_way ways.Expiry act = is_expiry act.kind

-- the reply by an outcome, the place of the act, and whether the act is new
abbrev pub IsJudgement : Identity → TermsView → Outcome → Option ℕ → Bool → Way → Reply → Type 0
IsJudgement identity terms outcome place new (ways.Request header proxies) (replies.Request answer) = answer ≡ answer_at (answer_octets identity terms header proxies outcome) place new
IsJudgement identity terms outcome place new (ways.Request header proxies) (replies.TopUp answer) = ⊥
IsJudgement identity terms outcome place new (ways.Request header proxies) (replies.Expiry answer) = ⊥
IsJudgement identity terms outcome place new ways.TopUp (replies.Request answer) = ⊥
IsJudgement identity terms outcome place new ways.TopUp (replies.TopUp answer) = Some answer ≡ told outcome place new
IsJudgement identity terms outcome place new ways.TopUp (replies.Expiry answer) = ⊥
IsJudgement identity terms outcome place new ways.Expiry (replies.Request answer) = ⊥
IsJudgement identity terms outcome place new ways.Expiry (replies.TopUp answer) = ⊥
IsJudgement identity terms outcome place new ways.Expiry (replies.Expiry answer) = Some answer ≡ ended outcome place

-- whether there is a reply by this outcome: each of a request has one
abbrev pub has_reply : Outcome → Option ℕ → Bool → Way → Bool
has_reply outcome place new (ways.Request header proxies) = true
has_reply outcome place new ways.TopUp = is_some (told outcome place new)
has_reply outcome place new ways.Expiry = is_some (ended outcome place)

-- the reply by the outcome of an act after these acts
abbrev pub IsJudged : Identity → TermsView → List Act → Act → Way → Reply → Type 0
IsJudged identity terms before act = IsJudgement identity terms (after terms before act) (place terms before act) (is_new terms before act)

-- the reply by which a call is refused
abbrev pub IsRefusal : Identity → Option (List ℕ) → Way → Reply → Type 0
IsRefusal identity session (ways.Request header proxies) (replies.Request answer) = IsRefusedBy identity header proxies session answer
IsRefusal identity session (ways.Request header proxies) (replies.TopUp answer) = ⊥
IsRefusal identity session (ways.Request header proxies) (replies.Expiry answer) = ⊥
IsRefusal identity session ways.TopUp (replies.Request answer) = ⊥
IsRefusal identity session ways.TopUp (replies.TopUp answer) = answer ≡ tops.Refused
IsRefusal identity session ways.TopUp (replies.Expiry answer) = ⊥
IsRefusal identity session ways.Expiry (replies.Request answer) = ⊥
IsRefusal identity session ways.Expiry (replies.TopUp answer) = ⊥
IsRefusal identity session ways.Expiry (replies.Expiry answer) = answer ≡ expiries.Refused

-- the reply is told apart from the others, is within the bound, and is that to a judged call or not
pub record IsFormed (judged : Bool) (reply : Reply) : Type 0 where
  pub judged_is : is_judged_reply reply ≡ judged
  pub apart : IsReplyToldApart reply
  pub bounded : IsReplyBounded reply

-- the reply to a call of a shard as it is, of a call that was judged or of one that was not
pub record IsReplied (shard : ShardView) (judged : Bool) (call : Call) (reply : Reply) : Type 0 where
  pub is : IsReply shard call reply
  pub formed : IsFormed judged reply

-- the plan of an act of a subscriber after these acts
abbrev pub IsPlanOf : Identity → TermsView → List Act → Sub → Act → Way → Plan → Type 0
IsPlanOf identity terms before sub act way (plans.Refused reply) = IsRefusal identity (session_of_act act) way reply × IsFormed false reply
IsPlanOf identity terms before sub act way (plans.Step own ready kept reply) =
    (own ≡ sub) × (kept ≡ way) × ((step_of ready.pending).act ≡ act) × IsJudged identity terms before act way reply × IsFormed true reply

-- A step of a call is planned: its subscriber, its act, its reply, and each refusal that it may have instead.
pub record IsPlannedStep (shard : ShardView) (call : Call) (sub : Sub) (act : Act) (way : Way) (reply : Reply) : Type 0 where
  pub sub_is : sub ≡ sub_of call
  pub act_is : act ≡ act_of call
  pub replied : IsReplied shard true call reply
  pub refused : (other : Reply) → IsRefusal shard.identity (session_of_act act) way other → IsReply shard call other

-- the plan of a call of a shard as it is
abbrev pub IsPlan : ShardView → Call → Plan → Type 0
IsPlan shard call (plans.Refused reply) = IsReplied shard false call reply
IsPlan shard call (plans.Step sub ready way reply) = IsPlannedStep shard call sub (step_of ready.pending).act way reply

-- the plan's step can be installed in the books as they are, with room for this number of sessions of its host
abbrev pub IsStanding : BooksView → OpenersView → ℕ → Plan → Type 0
IsStanding books openers number (plans.Refused reply) = Unit {0}
IsStanding books openers number (plans.Step sub ready way reply) =
    IsPending books sub (step_of ready.pending).act ready.pending × IsReady openers number (opening (step_of ready.pending)) ready.opens

-- the subscribers and the acts of the planned steps, in order
abbrev pub steps_in : List Plan → List (Sub × Act)
steps_in [] = []
steps_in (plans.Refused reply ∷ more) = steps_in more
steps_in (plans.Step sub ready way reply ∷ more) = (sub, (step_of ready.pending).act) ∷ steps_in more

abbrev pub subs_in : List Plan → List Sub
subs_in all = map (λ (one : Sub × Act). one.0) (steps_in all)

-- the new acts of the planned steps, with the entries that they add, in order
abbrev pub additions_in : List Plan → List AdditionView
additions_in [] = []
additions_in (plans.Refused reply ∷ more) = additions_in more
additions_in (plans.Step sub ready way reply ∷ more) =
    let step = step_of ready.pending in
    if step.is_new then record { sub = sub; act = step.act; entries = step.entries } ∷ additions_in more else additions_in more

-- the account of each subscriber stays, but for that of the planned step
abbrev pub StayBeside : (old new : List (Sub × Account)) → Plan → Type 0
StayBeside old new (plans.Refused reply) = new ≡ old
StayBeside old new (plans.Step sub ready way reply) = StayApart old new sub

-- the reply that a call has if the append isn't refused
abbrev pub reply_in : Plan → Reply
reply_in (plans.Refused reply) = reply
reply_in (plans.Step sub ready way reply) = reply

-- the reply that a call has if the append is refused: without a new act, the reply that it had, if the records go on
abbrev pub IsInstead : Identity → Bool → Plan → Reply → Type 0
IsInstead identity going (plans.Refused reply) other = other ≡ reply
IsInstead identity going (plans.Step sub ready way reply) other =
    MatchBool (going && not (step_of ready.pending).is_new)
    (other ≡ reply)
    (IsRefusal identity (session_of_act (step_of ready.pending).act) way other × IsFormed false other)

-- the books of a shard of this identity
abbrev pub shard_of_books : Identity → BooksView → ShardView
shard_of_books identity books = record { terms = books.terms; identity = identity; rows = books.rows }

-- All stays: the accounts under their terms, the records, and all room, which may have grown.
pub record IsSameWithRoom {R : Type 0} (old new : KeptView R) : Type 0 where
  pub terms : new.books.terms ≡ old.books.terms
  pub rows : new.books.rows ≡ old.books.rows
  pub room : old.books.room ≤ new.books.room
  pub openers : KeepsRoom old.openers new.openers
  pub records : new.records ≡ old.records

-- Calls of a shard were made, or refused: the replies, the acts that its books then hold, and the effect on the records.
pub record AreMade (shard : ShardView) (new : BooksView) (calls : List Call) (replies : List Reply) (before after : Content → Type 0) (was_stopped is_stopped : Bool)
    (faults_before faults_after : ℕ) : Type 0 where
  pub replies_are : AreReplies shard calls replies
  pub apart : AllByRecursion IsReplyToldApart replies
  pub bounded : AllByRecursion IsReplyBounded replies
  pub acts : (sub : Sub) → held_in new.rows sub ≡ held_behind shard.terms calls (map is_judged_reply replies) (held shard) sub
  pub terms : new.terms ≡ shard.terms
  pub kept : AreKept shard.terms (held shard) calls before after was_stopped is_stopped faults_before faults_after
  pub going : is_one_judged replies ≡ true → is_stopped ≡ false
  pub stopped : was_stopped ≡ true → is_one_judged replies ≡ false
