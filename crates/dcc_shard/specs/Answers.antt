-- The answers to a step of a subscriber.
use Rattle.std.specs.Prelude.{◌≡◌, ℕ, ◌≤◌, Bool, true, false, List, [], length, codes, Option, Some, None, option_map, MatchBool, ◌⊎◌}
use Rattle.dcc_tariff.specs.Terms.{TermsView}
use Rattle.dcc_message.specs.HeaderView.{HeaderView}
use Rattle.dcc_message.specs.declared.identity.Identity.{Identity}
use Rattle.dcc_message.specs.declared.length.TheConstants.{HEADER_LENGTH}
use Rattle.dcc_act.specs.declared.act.Act.{Act}
use Rattle.dcc_act.specs.declared.act.Kind.TheVariants as kind
use Rattle.dcc_act.specs.declared.outcome.Outcome.{Outcome}
use Rattle.dcc_act.specs.declared.outcome.Outcome.TheVariants as outcomes
use Rattle.dcc_act.specs.declared.request_key.RequestKey.{RequestKey}
use Rattle.dcc_act.specs.declared.sub.Sub.{Sub}
use Rattle.dcc_act.specs.TopUps.{is_amount}
use Rattle.dcc_model.specs.Keys.{request_key}
use Rattle.dcc_model.specs.Outcomes.{after, place, is_new}
use Rattle.dcc_answer.specs.Answers.{busy_octets}
use Rattle.dcc_answer.specs.Results.{is_busy}
use Rattle.dcc_credit.specs.Answers.{answer_octets}
use Rattle.dcc_shard.specs.Shards.{ShardView, held}
use Rattle.dcc_shard.specs.declared.answers.RequestAnswer.{RequestAnswer}
use Rattle.dcc_shard.specs.declared.answers.RequestAnswer.TheVariants as answers
use Rattle.dcc_shard.specs.declared.answers.ExpiryAnswer.{ExpiryAnswer}
use Rattle.dcc_shard.specs.declared.answers.ExpiryAnswer.TheVariants as expiries
use Rattle.dcc_shard.specs.declared.answers.TopUpAnswer.{TopUpAnswer}
use Rattle.dcc_shard.specs.declared.answers.TopUpAnswer.TheVariants.{Done, Ceiling, BadAmount, Refused}

-- the answer of these octets, with the place of its act; if the act has no place, the subscriber is unknown
abbrev pub answer_at : List ℕ → Option ℕ → Bool → RequestAnswer
answer_at octets (Some at) fresh = answers.Done octets at fresh
answer_at octets None fresh = answers.Unknown octets

-- the answer to a request after these acts: the octets by the outcome of its act, and the act's place
abbrev pub answer_after : Identity → TermsView → HeaderView → List ℕ → List Act → Act → RequestAnswer
answer_after identity terms header proxies before act =
    answer_at (answer_octets identity terms header proxies (after terms before act)) (place terms before act) (is_new terms before act)

-- the busy answer to a request, with its session
abbrev pub session_of_act : Act → Option (List ℕ)
session_of_act act = option_map (λ (key : RequestKey). key.sid) (request_key act.kind)

abbrev pub busy_answer : Identity → HeaderView → List ℕ → Option (List ℕ) → RequestAnswer
busy_answer identity header proxies session = answers.Busy (busy_octets identity session header proxies)

-- a request is refused by the busy answer, or without an answer
abbrev pub IsRefusedBy : Identity → HeaderView → List ℕ → Option (List ℕ) → RequestAnswer → Type 0
IsRefusedBy identity header proxies session answer =
    (answer ≡ busy_answer identity header proxies session) ⊎ (answer ≡ answers.Silent)

-- the answers that a request may have
abbrev pub IsAnswer : ShardView → Sub → Act → HeaderView → List ℕ → RequestAnswer → Type 0
IsAnswer shard sub act header proxies answer =
    (answer ≡ answer_after shard.identity shard.terms header proxies (held shard sub) act)
    ⊎ IsRefusedBy shard.identity header proxies (session_of_act act) answer

-- whether the request's act was judged, and so may have been made
abbrev pub is_judged : RequestAnswer → Bool
is_judged (answers.Done octets at fresh) = true
is_judged (answers.Unknown octets) = true
is_judged (answers.Busy octets) = false
is_judged answers.Silent = false

abbrev pub top_up_act : ℕ → ℕ → ℕ → Act
top_up_act moment ticket amount = record { moment = moment; kind = kind.TopUp (record { ticket = ticket; amount = amount }) }

-- the answer to a top-up by its outcome and its place; a top-up has no other outcome, and always has a place
abbrev pub told : Outcome → Option ℕ → Bool → Option TopUpAnswer
told outcome None fresh = None
told outcomes.Added (Some at) fresh = Some (Done at fresh)
told outcomes.Ceiling (Some at) fresh = Some (Ceiling at fresh)
told (outcomes.Unknown request key) (Some at) fresh = None
told (outcomes.Answered answer) (Some at) fresh = None
told (outcomes.Expired sessions) (Some at) fresh = None

-- the answer to a top-up after these acts
abbrev pub told_after : TermsView → List Act → Act → Option TopUpAnswer
told_after terms before act = told (after terms before act) (place terms before act) (is_new terms before act)

-- a top-up of an amount outside the limits is answered as bad; any other by its outcome, or as refused
abbrev pub IsTold : ShardView → Sub → ℕ → ℕ → ℕ → TopUpAnswer → Type 0
IsTold shard sub moment ticket amount answer =
    MatchBool (is_amount amount)
    ((Some answer ≡ told_after shard.terms (held shard sub) (top_up_act moment ticket amount)) ⊎ (answer ≡ Refused))
    (answer ≡ BadAmount)

-- whether the top-up was judged, and so may have been made
abbrev pub is_judged_top_up : TopUpAnswer → Bool
is_judged_top_up (Done at fresh) = true
is_judged_top_up (Ceiling at fresh) = true
is_judged_top_up BadAmount = false
is_judged_top_up Refused = false

abbrev pub expiry_act : ℕ → Act
expiry_act moment = record { moment = moment; kind = kind.Expiry }

-- the answer to an expiry by its outcome and its place; an expiry has no other outcome, and has a place exactly if it is made
abbrev pub ended : Outcome → Option ℕ → Option ExpiryAnswer
ended (outcomes.Expired sessions) (Some at) = Some (expiries.Closed sessions at)
ended (outcomes.Expired sessions) None = Some expiries.Nothing
ended outcomes.Added at = None
ended outcomes.Ceiling at = None
ended (outcomes.Unknown request key) at = None
ended (outcomes.Answered answer) at = None

-- the answer to an expiry after these acts
abbrev pub ended_after : TermsView → List Act → Act → Option ExpiryAnswer
ended_after terms before act = ended (after terms before act) (place terms before act)

-- an expiry is answered by its outcome, or as refused
abbrev pub IsExpired : ShardView → Sub → ℕ → ExpiryAnswer → Type 0
IsExpired shard sub moment answer =
    (Some answer ≡ ended_after shard.terms (held shard sub) (expiry_act moment)) ⊎ (answer ≡ expiries.Refused)

-- whether the expiry was judged, and so may have been made
abbrev pub is_judged_expiry : ExpiryAnswer → Bool
is_judged_expiry (expiries.Closed sessions at) = true
is_judged_expiry expiries.Nothing = true
is_judged_expiry expiries.Refused = false

-- the octets of an answer
abbrev pub octets_of : RequestAnswer → List ℕ
octets_of (answers.Done octets at fresh) = octets
octets_of (answers.Unknown octets) = octets
octets_of (answers.Busy octets) = octets
octets_of answers.Silent = []

-- the answer to a judged act has a header and is not busy; the busy answer has a header and is busy
abbrev pub IsToldApart : RequestAnswer → Type 0
IsToldApart (answers.Done octets at fresh) = (is_busy octets ≡ false) × (HEADER_LENGTH ≤ length octets)
IsToldApart (answers.Unknown octets) = (is_busy octets ≡ false) × (HEADER_LENGTH ≤ length octets)
IsToldApart (answers.Busy octets) = (is_busy octets ≡ true) × (HEADER_LENGTH ≤ length octets)
IsToldApart answers.Silent = Unit {0}

-- the answer to a top-up, as the printed word
abbrev pub word_of : TopUpAnswer → List ℕ
word_of (Done at fresh) = codes "done"
word_of (Ceiling at fresh) = codes "ceiling"
word_of BadAmount = codes "bad"
word_of Refused = codes "refused"
