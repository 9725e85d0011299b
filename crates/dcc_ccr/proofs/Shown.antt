-- Two AVPs that contradict each other are different ones of a list, so both together have no more octets than the list.
use Rattle.std.proofs.Common.{◌≡◌, ℕ, zero, suc, ◌+◌, ◌<◌, ◌≤◌, Bool, true, false, List, [], ◌∷◌, Option, Some, None, Result, Ok, Err, refl, arith, tests, inl, inr}
use Rattle.std.specs.Prelude.{◌==◌, ◌&&◌, find, filter, slice_get, option_map, IfSome, IfErr, is_none}
use Rattle.std.specs.List.{sum_by}
use Rattle.std.specs.Option.{option_and_then, option_or}
use Rattle.std.proofs.lemmas.Bool.{cases_Bool}
use Rattle.std.proofs.lemmas.List.Sums.{sum_by-cons}
use Rattle.dcc_avp.specs.Spelling.{AvpView, has_code, padded_len}
use Rattle.dcc_avp.specs.declared.codes.TheConstants.{REQUESTED_SERVICE_UNIT, USED_SERVICE_UNIT, MULTIPLE_SERVICES_CREDIT_CONTROL}
use Rattle.dcc_message.specs.declared.length.TheConstants.{MAX_LENGTH}
use Rattle.dcc_request.specs.declared.stop.Stop.{Stop}
use Rattle.dcc_request.specs.declared.stop.Stop.TheVariants.{Refused, Memory}
use Rattle.dcc_request.specs.Answers.{Gives}
use Rattle.dcc_request.specs.Refusals.{Refusal, or_else}
use Rattle.dcc_ccr.specs.declared.request_type.RequestType.{RequestType}
use Rattle.dcc_ccr.specs.Types.{is_event}
use Rattle.dcc_ccr.specs.Services.{ServiceView}
use Rattle.dcc_ccr.specs.Contradictions.{contradicting, multi_at, both_at, units_beside, several_in_event, repeated, same_keys, contradiction}
use Rattle.dcc_ccr.specs.Requests.{IsStopWithin}
use Rattle.dcc_ccr.proofs.Bounds.{AreFew, Bounded, MayShow, filter_less}
use Rattle.dcc_ccr.proofs.Limits.{repeated_within}

-- ---- one of a list, and two

one_step : (avp : AvpView) (avps : List AvpView) (o : Option AvpView) → IfSome o (λ found. padded_len found ≤ sum_by padded_len avps) →
    IfSome o (λ found. padded_len found ≤ sum_by padded_len (avp ∷ avps))
one_step avp avps None h = tt
one_step avp avps (Some found) h = let all = sum_by-cons padded_len avp avps in omega arith

here : (avp : AvpView) (avps : List AvpView) → padded_len avp ≤ sum_by padded_len (avp ∷ avps)
here avp avps = let all = sum_by-cons padded_len avp avps in omega arith

one_at : (avps : List AvpView) (i : ℕ) → IfSome (slice_get avps i) (λ found. padded_len found ≤ sum_by padded_len avps)
one_at [] i = tt
one_at (avp ∷ avps) zero = here avp avps
one_at (avp ∷ avps) (suc i) = one_step avp avps (slice_get avps i) (one_at avps i)

one_found : (test : AvpView → Bool) (avps : List AvpView) → IfSome (find test avps) (λ found. padded_len found ≤ sum_by padded_len avps)
one_found test [] = tt
one_found test (avp ∷ avps) =
    elim (cases_Bool (test avp)) [
      | inl is ↦ rw is (here avp avps)
      | inr other ↦ rw other (one_step avp avps (find test avps) (one_found test avps))
    ]

longer : (o : Option AvpView) (few most : ℕ) → few ≤ most → IfSome o (λ found. padded_len found ≤ few) → IfSome o (λ found. padded_len found ≤ most)
longer None few most less h = tt
longer (Some found) few most less h = omega arith

-- both are there, and have so many octets together at most
abbrev pub Both : ℕ → Option AvpView → Option AvpView → Type 0
Both most None second = Unit {0}
Both most (Some first) None = Unit {0}
Both most (Some first) (Some second) = padded_len first + padded_len second ≤ most

both_more : (few most : ℕ) (first second : Option AvpView) → few ≤ most → Both few first second → Both most first second
both_more few most None second less h = tt
both_more few most (Some first) None less h = tt
both_more few most (Some first) (Some second) less h = omega arith

both_step : (avp : AvpView) (avps : List AvpView) (first second : Option AvpView) → Both (sum_by padded_len avps) first second →
    Both (sum_by padded_len (avp ∷ avps)) first second
both_step avp avps first second h =
    let all = sum_by-cons padded_len avp avps in
    both_more (sum_by padded_len avps) (sum_by padded_len (avp ∷ avps)) first second (omega arith) h

first_here : (avp : AvpView) (avps : List AvpView) (second : Option AvpView) → IfSome second (λ found. padded_len found ≤ sum_by padded_len avps) →
    Both (sum_by padded_len (avp ∷ avps)) (Some avp) second
first_here avp avps None h = tt
first_here avp avps (Some second) h = let all = sum_by-cons padded_len avp avps in omega arith

second_here : (avp : AvpView) (avps : List AvpView) (first : Option AvpView) → IfSome first (λ found. padded_len found ≤ sum_by padded_len avps) →
    Both (sum_by padded_len (avp ∷ avps)) first (Some avp)
second_here avp avps None h = tt
second_here avp avps (Some first) h = let all = sum_by-cons padded_len avp avps in omega arith

two_at : (avps : List AvpView) (i j : ℕ) → i < j → Both (sum_by padded_len avps) (slice_get avps i) (slice_get avps j)
two_at [] i j before = tt
two_at (avp ∷ avps) zero zero before = absurd (omega arith)
two_at (avp ∷ avps) zero (suc j) before = first_here avp avps (slice_get avps j) (one_at avps j)
two_at (avp ∷ avps) (suc i) zero before = absurd (omega arith)
two_at (avp ∷ avps) (suc i) (suc j) before = both_step avp avps (slice_get avps i) (slice_get avps j) (two_at avps i j (omega arith))

-- the first that passes one test, and any that passes another, which no AVP passes besides
passed_step : (avp : AvpView) (avps others : List AvpView) (first : Option AvpView) (i : ℕ) →
    IfSome first (λ found. padded_len found ≤ sum_by padded_len avps) → ((k : ℕ) → Both (sum_by padded_len avps) first (slice_get others k)) →
    Both (sum_by padded_len (avp ∷ avps)) first (slice_get (avp ∷ others) i)
passed_step avp avps others first zero one rest = second_here avp avps first one
passed_step avp avps others first (suc i) one rest = both_step avp avps first (slice_get others i) (rest i)

apart : (p q : AvpView → Bool) → ((avp : AvpView) → p avp ≡ true → q avp ≡ false) → (avps : List AvpView) (i : ℕ) →
    Both (sum_by padded_len avps) (find p avps) (slice_get (filter q avps) i)
apart p q differ [] i = tt
apart p q differ (avp ∷ avps) i =
    elim (cases_Bool (p avp)) [
      | inl first ↦
          rw (first, differ avp first) (first_here avp avps (slice_get (filter q avps) i)
          (longer (slice_get (filter q avps) i) (sum_by padded_len (filter q avps)) (sum_by padded_len avps) (filter_less q avps) (one_at (filter q avps) i)))
      | inr other ↦
          elim (cases_Bool (q avp)) [
            | inl second ↦ rw (other, second) (passed_step avp avps (filter q avps) (find p avps) i (one_found p avps) (apart p q differ avps))
            | inr neither ↦ rw (other, neither) (both_step avp avps (find p avps) (slice_get (filter q avps) i) (apart p q differ avps i))
          ]
    ]

-- ---- contradictions

both_shown : (first second : Option AvpView) → Both MAX_LENGTH first second → MayShow (option_and_then (λ a. option_map (contradicting a) second) first)
both_shown None second h = tt
both_shown (Some first) None h = tt
both_shown (Some first) (Some second) h = omega arith

several_shown : (avps : List AvpView) (i j : ℕ) → i < j → AreFew avps → MayShow (both_at avps i j)
unfolding both_at
several_shown avps i j before few =
    let multi = filter (has_code MULTIPLE_SERVICES_CREDIT_CONTROL) avps in
    let less = filter_less (has_code MULTIPLE_SERVICES_CREDIT_CONTROL) avps in
    both_shown (slice_get multi i) (slice_get multi j)
    (both_more (sum_by padded_len multi) MAX_LENGTH (slice_get multi i) (slice_get multi j) (omega arith) (two_at multi i j before))

other_code : (code vendor_code n : ℕ) (own : Bool) → code == n ≡ false → ((vendor_code == code) && own) ≡ true → ((vendor_code == n) && own) ≡ false
other_code code vendor_code n own differs is = search (arith, tests)

asked_beside : (avp : AvpView) → has_code REQUESTED_SERVICE_UNIT avp ≡ true → has_code MULTIPLE_SERVICES_CREDIT_CONTROL avp ≡ false
asked_beside avp is = other_code REQUESTED_SERVICE_UNIT avp.code MULTIPLE_SERVICES_CREDIT_CONTROL (is_none avp.vendor) refl is

used_beside : (avp : AvpView) → has_code USED_SERVICE_UNIT avp ≡ true → has_code MULTIPLE_SERVICES_CREDIT_CONTROL avp ≡ false
used_beside avp is = other_code USED_SERVICE_UNIT avp.code MULTIPLE_SERVICES_CREDIT_CONTROL (is_none avp.vendor) refl is

either_shown : (first other second : Option AvpView) → Both MAX_LENGTH first second → Both MAX_LENGTH other second →
    MayShow (option_and_then (λ a. option_map (contradicting a) second) (option_or first other))
either_shown None other second one rest = both_shown other second rest
either_shown (Some first) other second one rest = both_shown (Some first) second one

beside_shown : (avps : List AvpView) → AreFew avps → MayShow (units_beside avps)
unfolding units_beside
beside_shown avps few =
    let multi = multi_at avps 0 in
    either_shown (find (has_code REQUESTED_SERVICE_UNIT) avps) (find (has_code USED_SERVICE_UNIT) avps) multi
    (both_more (sum_by padded_len avps) MAX_LENGTH (find (has_code REQUESTED_SERVICE_UNIT) avps) multi few
    (apart (has_code REQUESTED_SERVICE_UNIT) (has_code MULTIPLE_SERVICES_CREDIT_CONTROL) asked_beside avps 0))
    (both_more (sum_by padded_len avps) MAX_LENGTH (find (has_code USED_SERVICE_UNIT) avps) multi few
    (apart (has_code USED_SERVICE_UNIT) (has_code MULTIPLE_SERVICES_CREDIT_CONTROL) used_beside avps 0))

event_shown : (type : RequestType) (avps : List AvpView) → AreFew avps → MayShow (several_in_event type avps)
event_shown type avps few =
    elim (cases_Bool (is_event type)) [
      | inl event ↦ rw event (several_shown avps 0 1 (omega arith) few)
      | inr other ↦ rw other tt
    ]

keys_step : (avps : List AvpView) (places : Option (ℕ × ℕ)) → ((i j : ℕ) → places ≡ Some (i, j) → i < j) → AreFew avps →
    MayShow (option_and_then (λ places. both_at avps places.0 places.1) places)
keys_step avps None before few = tt
keys_step avps (Some places) before few = several_shown avps places.0 places.1 (before places.0 places.1 refl) few

keys_shown : (services : List ServiceView) (avps : List AvpView) → AreFew avps → MayShow (same_keys services avps)
keys_shown services avps few = keys_step avps (repeated [] services) (λ i j is. (repeated_within [] services i j is).0) few

or_shown : (one other : Option Refusal) → MayShow one → MayShow other → MayShow (or_else one other)
or_shown None other a b = b
or_shown (Some refusal) other a b = a

pub contradiction_shown : (type : RequestType) (services : List ServiceView) (avps : List AvpView) → AreFew avps → MayShow (contradiction type services avps)
unfolding contradiction
contradiction_shown type services avps few =
    or_shown (units_beside avps) (or_else (several_in_event type avps) (same_keys services avps)) (beside_shown avps few)
    (or_shown (several_in_event type avps) (same_keys services avps) (event_shown type avps few) (keys_shown services avps few))

-- ---- as a call answers it

pub stop_within : {X Y : Type 0} (P : Y → Type 0) (view : X → Y) (result : Result X Stop) (given : Result Y Refusal) → Gives view result given →
    Bounded P given → IfErr result IsStopWithin
stop_within P view (Ok x) given gives h = tt
stop_within P view (Err (Refused refusal)) given gives h = rw gives at h
stop_within P view (Err Memory) given gives h = tt
