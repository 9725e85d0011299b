-- The tests of receipts against a subscriber's acts.
use Rattle.std.specs.Prelude.{◌≡◌, ℕ, ◌-◌, ◌<◌, ◌≤◌, Bool, true, false, not, ◌&&◌, ◌||◌, ◌==◌, nat_lt, if◌then◌else◌, bytes_eq, List, [], ◌∷◌, filter, slice_get, count_by, Option, Some, None}
use Rattle.std.specs.List.{list_all, sum_by}
use Rattle.dcc_tariff.specs.Terms.{TermsView}
use Rattle.dcc_message.specs.declared.identity.Identity.{Identity}
use Rattle.dcc_act.specs.declared.act.Act.{Act}
use Rattle.dcc_act.specs.declared.outcome.Outcome.{Outcome}
use Rattle.dcc_act.specs.declared.outcome.Outcome.TheVariants as outcomes
use Rattle.dcc_act.specs.declared.sub.Sub.{Sub}
use Rattle.dcc_act.specs.Subs.{same_sub}
use Rattle.dcc_credit.specs.Answers.{answer_octets}
use Rattle.dcc_model.specs.Keys.{same_key}
use Rattle.dcc_model.specs.Outcomes.{acts, outcome, unknown_of}
use Rattle.dcc_store.specs.Books.{Held}
use Rattle.dcc_receipts.specs.Acts.{same_act}
use Rattle.dcc_receipts.specs.declared.receipt.Receipt.{Receipt}
use Rattle.dcc_receipts.specs.declared.receipt.Told.{Told}
use Rattle.dcc_receipts.specs.declared.receipt.Told.TheVariants.{Octets, Added, Ceiling, Closed}

-- the receipts of one subscriber among those of a seat, in their order
abbrev pub own : Sub → List Receipt → List Receipt
own sub receipts = filter (λ r. same_sub r.sub sub) receipts

-- the act at a receipt's place is the receipt's act if the receipt is fresh, and otherwise an act with the same key
abbrev pub is_there : Option Act → Receipt → Bool
is_there None r = false
is_there (Some there) r = if r.fresh then same_act there r.act else same_key r.act.kind there.kind

-- A receipt agrees with a subscriber's acts, of which the first `opened` were there at opening. A fresh receipt is of an act since then.
-- A receipt without a place is of an unknown subscriber, who had no acts at opening.
abbrev pub agrees : (opened : ℕ) → List Act → Receipt → Bool
agrees opened all r =
    if r.place == 0 then not r.fresh && (opened == 0)
    else is_there (slice_get all (r.place - 1)) r && (not r.fresh || nat_lt opened r.place)

abbrev pub all_agree : (opened : ℕ) → List Act → List Receipt → Bool
all_agree opened all receipts = list_all (agrees opened all) receipts

-- the outcome is one of a request
abbrev pub is_answer : Outcome → Bool
is_answer (outcomes.Unknown request key) = true
is_answer (outcomes.Answered answer) = true
is_answer outcomes.Added = false
is_answer outcomes.Ceiling = false
is_answer (outcomes.Expired sessions) = false

-- the answer is the answer by the outcome: a request's answer octet for octet, under the receipt's header and with its proxies
abbrev pub tells : Identity → TermsView → Receipt → Told → Outcome → Bool
tells identity terms r (Octets octets) come = is_answer come && bytes_eq octets (answer_octets identity terms r.header r.proxies come)
tells identity terms r Added outcomes.Added = true
tells identity terms r Ceiling outcomes.Ceiling = true
tells identity terms r (Closed ended) (outcomes.Expired sessions) = ended == sessions
tells identity terms r _ _ = false

abbrev pub tells_of : Identity → TermsView → Receipt → Option Outcome → Bool
tells_of identity terms r None = false
tells_of identity terms r (Some come) = tells identity terms r r.answer come

-- the outcome of a receipt's act: the outcome at its place; without a place, the outcome for an unknown subscriber
abbrev pub came_to : TermsView → List Act → Receipt → Option Outcome
came_to terms all r = if r.place == 0 then unknown_of r.act.kind else outcome terms all r.place

abbrev pub is_answered : Identity → TermsView → List Act → Receipt → Bool
is_answered identity terms all r = tells_of identity terms r (came_to terms all r)

-- the number of fresh receipts of a place
abbrev pub times : ℕ → List Receipt → ℕ
times place receipts = count_by (λ r. r.fresh && (r.place == place)) receipts

-- a later receipt of a seat is after an earlier one: a fresh receipt has a greater place, and no receipt without a place follows one
-- with a place
abbrev pub is_after : Receipt → Receipt → Bool
is_after earlier later = if later.fresh then nat_lt earlier.place later.place else nat_lt 0 later.place || (earlier.place == 0)

-- each receipt is after all receipts of its seat before it
abbrev pub in_order : (before : List Receipt) → List Receipt → Bool
in_order before [] = true
in_order before (r ∷ rest) = list_all (λ earlier. is_after earlier r) before && in_order (r ∷ before) rest
