-- Receipts that were audited while the shards were under locks, once the shards are out of them.
use Rattle.std.proofs.Common.{◌≡◌, ◌≢◌, Bool, ℕ, ◌+◌, ◌-◌, ◌^◌, ◌<◌, min, ◌≤◌, ◌⊎◌, zero, suc, take, true, false, ◌&&◌, ◌==◌, not, List, [], ◌∷◌, ◌++◌, length, get_or, slice_get, refl, sym, ap, subst, ◌∙◌, inl, inr, arith}
use Rattle.std.proofs.lemmas.Bool.{cases_Bool}
use Rattle.std.proofs.lemmas.Bool.Decides.{nat_tests}
use Rattle.std.proofs.lemmas.List.{take_more}
use Rattle.std.proofs.lemmas.List.Sums.{sum_by-append, sum_by-cons, sum_by_more}
use Rattle.std.proofs.lemmas.Option.{slice_get-get_or}
use Rattle.std.specs.List.{list_all, sum_by}
use Rattle.std.specs.Prelude.{Option, cond, filter}
use Rattle.dcc_tariff.specs.Terms.{TermsView}
use Rattle.dcc_message.specs.declared.identity.Identity.{Identity}
use Rattle.dcc_act.specs.declared.act.Act.{Act}
use Rattle.dcc_act.specs.declared.sub.Sub.{Sub}
use Rattle.dcc_act.specs.Subs.{same_sub, SameAreEqual}
use Rattle.dcc_receipts.specs.Audit.{agrees, is_answered, own, times}
use Rattle.dcc_receipts.specs.declared.receipt.Receipt.{Receipt}
use Rattle.dcc_shard.specs.Routes.{shard_of}
use Rattle.dcc_shard.specs.Shards.{held}
use Rattle.dcc_shard.specs.Stored.{StoredView}
use Rattle.dcc_store.specs.Books.{Held}
use Rattle.dcc_running.specs.Acts.{acts_of}
use Rattle.dcc_running.specs.Audited.{are_true, is_true, times_in}
use Rattle.dcc_running.specs.Books.{AreShards, acts_told, book, held_by, told_in}
use Rattle.dcc_running.specs.declared.lock.Side.{Side}
use Rattle.dcc_receipts.specs.Marks.{MarksView, is_marked}
use Rattle.dcc_running.specs.inner.Marked.{AreMarked, IsCovered}
use Rattle.dcc_running.specs.inner.Wards.{AreBeside, AreTold}
use Rattle.dcc_running.proofs.Growth.{both_of}

-- a receipt that is true of the acts of one list is so of another if these are equal, or if it has no place
true_elsewhere : (identity : Identity) (terms : TermsView) (opened : ℕ) (xs ys : List Act) (r : Receipt) → (xs ≡ ys) ⊎ ((r.place == 0) ≡ true)
    → (agrees opened xs r && is_answered identity terms xs r) ≡ true → (agrees opened ys r && is_answered identity terms ys r) ≡ true
true_elsewhere identity terms opened xs ys r (inl same) is = subst (λ (l : List Act). (agrees opened l r && is_answered identity terms l r) ≡ true) same is
true_elsewhere identity terms opened xs ys r (inr none) is = rw none (rw none at is)

-- the acts of a receipt with a place are those that the shard holds
with_acts : (opened : ℕ) (xs : List Act) (r : Receipt) → (r.place == 0) ≡ false → agrees opened xs r ≡ true → xs ≢ []
with_acts opened [] r placed is same = absurd (cc (rw placed at is))
with_acts opened (x ∷ xs) r placed is same = absurd (cc same)

module _ {R : Type 0} (opening : Held) (terms : TermsView) (identity : Identity) (parts : List (StoredView R)) (shards : AreShards terms identity parts) where
  pub one_told : (i : ℕ) (none : StoredView R) → i < length parts → (r : Receipt)
      → is_true (get_or parts i none).shard.identity (get_or parts i none).shard.terms opening (held (get_or parts i none).shard) r ≡ true
      → is_true identity terms opening (book parts) r ≡ true
  one_told i none within r is =
      let part = get_or parts i none in
      let here : is_true identity terms opening (held part.shard) r ≡ true =
      subst (λ (t : TermsView). is_true identity t opening (held part.shard) r ≡ true) (shards.terms_are i none within)
      (subst (λ (d : Identity). is_true d part.shard.terms opening (held part.shard) r ≡ true) (shards.identity_is i none within) is) in
      true_elsewhere identity terms (length (opening r.sub)) (held part.shard r.sub) (book parts r.sub) r (elim (cases_Bool (r.place == 0)) [
        | inl away ↦ inr away
        | inr placed ↦
            let both = both_of (agrees (length (opening r.sub)) (held part.shard r.sub) r) (is_answered identity terms (held part.shard r.sub) r) here in
            let there : shard_of r.sub (length parts) ≡ i =
            shards.placed i none r.sub within (with_acts (length (opening r.sub)) (held part.shard r.sub) r placed both.0) in
            inl (sym (ap (λ (k : ℕ). held_by (slice_get parts k) r.sub) there ∙ ap (λ (o : Option (StoredView R)). held_by o r.sub) (slice_get-get_or parts i none within)))
      ]) here

  pub all_told : (i : ℕ) (none : StoredView R) → i < length parts → (told : List Receipt) → AreTold opening (get_or parts i none) told
      → list_all (is_true identity terms opening (book parts)) told ≡ true
  all_told i none within [] are = refl
  all_told i none within (r ∷ rest) are =
      let part = get_or parts i none in
      let both = both_of (is_true part.shard.identity part.shard.terms opening (held part.shard) r)
      (list_all (is_true part.shard.identity part.shard.terms opening (held part.shard)) rest) are in
      rw (one_told i none within r both.0) (all_told i none within rest both.1)

-- a receipt of a subscriber counts for its own place if it is fresh, and for no other
one_more_time : (sub : Sub) (place : ℕ) (r : Receipt) (rest : List Receipt)
    → ((same_sub r.sub sub ≡ true) × (r.fresh ≡ true) × (times place (own sub (r ∷ rest)) ≡ 1 + times place (own sub rest)) × (r.place ≡ place))
    ⊎ (times place (own sub (r ∷ rest)) ≡ times place (own sub rest))
one_more_time sub place r rest = elim (cases_Bool (same_sub r.sub sub)) [
  | inl mine ↦
      let mine_too : own sub (r ∷ rest) ≡ r ∷ own sub rest = rw mine refl in
      let count : times place (r ∷ own sub rest) ≡ cond (r.fresh && (r.place == place)) 1 0 + times place (own sub rest) =
      sum_by-cons (λ (x : Receipt). cond (x.fresh && (x.place == place)) 1 0) r (own sub rest) in
      elim (cases_Bool (r.fresh && (r.place == place))) [
        | inl counts ↦
            let both = both_of r.fresh (r.place == place) counts in
            inl (mine, both.0, ap (times place) mine_too ∙ (count ∙ rw counts refl), grind (arith, nat_tests))
        | inr other ↦ inr (ap (times place) mine_too ∙ (count ∙ rw other (omega arith)))
      ]
  | inr another ↦ (let skipped : own sub (r ∷ rest) ≡ own sub rest = rw another refl in inr (ap (times place) skipped))
]

fresh_agree : (opened : ℕ) (xs : List Act) (r : Receipt) → r.fresh ≡ true → agrees opened xs r ≡ true → (r.place == 0) ≡ false
fresh_agree opened xs r fresh is = elim (cases_Bool (r.place == 0)) [ inl none ↦ absurd (cc (rw (none, fresh) at is)) | inr placed ↦ placed ]

module _ {R : Type 0} (same : SameAreEqual) (opening : Held) (terms : TermsView) (identity : Identity) (parts : List (StoredView R)) (shards : AreShards terms identity parts) where
  -- a subscriber of whom a shard has a fresh audited receipt is kept by this shard
  pub kept_here : (sub : Sub) (place i : ℕ) (none : StoredView R) → i < length parts → (told : List Receipt) → AreTold opening (get_or parts i none) told
      → 0 < times place (own sub told) → shard_of sub (length parts) ≡ i
  kept_here sub place i none within [] are some = absurd (omega (arith, some))
  kept_here sub place i none within (r ∷ rest) are some =
      let part = get_or parts i none in
      let both = both_of (is_true part.shard.identity part.shard.terms opening (held part.shard) r)
      (list_all (is_true part.shard.identity part.shard.terms opening (held part.shard)) rest) are in
      elim (one_more_time sub place r rest) [
        | inl counts ↦
            let agree = (both_of (agrees (length (opening r.sub)) (held part.shard r.sub) r) (is_answered part.shard.identity part.shard.terms (held part.shard r.sub) r) both.0).0 in
            let placed = fresh_agree (length (opening r.sub)) (held part.shard r.sub) r counts.1 agree in
            subst (λ (s : Sub). shard_of s (length parts) ≡ i) ((same r.sub sub).0 counts.0)
            (shards.placed i none r.sub within (with_acts (length (opening r.sub)) (held part.shard r.sub) r placed agree))
        | inr not ↦ kept_here sub place i none within rest both.1 (omega (arith, some, not))
      ]

-- if no side, or one side alone, has a place
pub told_none : (sub : Sub) (place : ℕ) (sides : List Side) → ((i : ℕ) (none : Side) → i < length sides → times place (own sub (get_or sides i none).told.receipts) ≡ 0)
    → times_in sub place (told_in sides) ≡ 0
told_none sub place [] are = refl
told_none sub place (side ∷ sides) are =
    let count = sum_by-cons (λ (receipts : List Receipt). times place (own sub receipts)) side.told.receipts (told_in sides) in
    omega (arith, count, are zero side (omega arith), told_none sub place sides (λ i none within. are (suc i) none (omega (arith, within))))

pub told_once : (sub : Sub) (place r : ℕ) (sides : List Side) → ((i : ℕ) (none : Side) → i < length sides → times place (own sub (get_or sides i none).told.receipts) ≤ 1)
    → ((i : ℕ) (none : Side) → i < length sides → 0 < times place (own sub (get_or sides i none).told.receipts) → r ≡ i) → times_in sub place (told_in sides) ≤ 1
told_once sub place r [] most only = omega arith
told_once sub place zero (side ∷ sides) most only =
    let count = sum_by-cons (λ (receipts : List Receipt). times place (own sub receipts)) side.told.receipts (told_in sides) in
    let none_else = told_none sub place sides (λ i none within. elim (zero_or (times place (own sub (get_or sides i none).told.receipts))) [
      | inl zero_times ↦ zero_times
      | inr some ↦ absurd (omega (arith, only (suc i) none (omega (arith, within)) some))
    ]) in
    omega (arith, count, none_else, most zero side (omega arith))
  where
    zero_or : (n : ℕ) → (n ≡ 0) ⊎ (0 < n)
    zero_or zero = inl refl
    zero_or (suc n) = inr (omega arith)
told_once sub place (suc r) (side ∷ sides) most only =
    let count = sum_by-cons (λ (receipts : List Receipt). times place (own sub receipts)) side.told.receipts (told_in sides) in
    let rest = told_once sub place r sides (λ i none within. most (suc i) none (omega (arith, within)))
    (λ i none within some. omega (arith, only (suc i) none (omega (arith, within)) some)) in
    elim (zero_or (times place (own sub side.told.receipts))) [
      | inl zero_times ↦ omega (arith, count, zero_times, rest)
      | inr some ↦ absurd (omega (arith, only zero side (omega arith) some))
    ]
  where
    zero_or : (n : ℕ) → (n ≡ 0) ⊎ (0 < n)
    zero_or zero = inl refl
    zero_or (suc n) = inr (omega arith)

-- of what is marked or not, there is one at most
pub marked_once : (b : Bool) (n : ℕ) → cond b 1 0 ≡ n → n ≤ 1
marked_once true n is = omega (arith, is)
marked_once false n is = omega (arith, is)

-- a place of one side is a place of all sides
pub told_some : (sub : Sub) (place : ℕ) (sides : List Side) (i : ℕ) (none : Side) → i < length sides → 0 < times place (own sub (get_or sides i none).told.receipts)
    → 0 < times_in sub place (told_in sides)
told_some sub place [] i none within some = absurd (omega (arith, within))
told_some sub place (side ∷ sides) zero none within some =
    let count = sum_by-cons (λ (receipts : List Receipt). times place (own sub receipts)) side.told.receipts (told_in sides) in omega (arith, count, some)
told_some sub place (side ∷ sides) (suc i) none within some =
    let count = sum_by-cons (λ (receipts : List Receipt). times place (own sub receipts)) side.told.receipts (told_in sides) in
    omega (arith, count, told_some sub place sides i none (omega (arith, within)) some)

-- the audited receipts of all shards are true of the books
pub all_true : {R : Type 0} (opening : Held) (terms : TermsView) (identity : Identity) (parts : List (StoredView R)) → AreShards terms identity parts
    → (sides : List Side) (rest : List (StoredView R)) → AreBeside opening sides rest → ((i : ℕ) (none : StoredView R) → i < length rest
    → (told : List Receipt) → AreTold opening (get_or rest i none) told → list_all (is_true identity terms opening (book parts)) told ≡ true)
    → are_true identity terms opening (book parts) (told_in sides) ≡ true
all_true opening terms identity parts shards [] [] are each = refl
all_true opening terms identity parts shards [] (part ∷ rest) are each = absurd are
all_true opening terms identity parts shards (side ∷ sides) [] are each = absurd are
all_true {R} opening terms identity parts shards (side ∷ sides) (part ∷ rest) are each =
    rw (each zero part (omega arith) side.told.receipts are.0.1)
    (all_true opening terms identity parts shards sides rest are.1 (λ i none within. each (suc i) none (omega (arith, within))))

pub told_at : {R : Type 0} (opening : Held) (sides : List Side) (parts : List (StoredView R)) → AreBeside opening sides parts → (i : ℕ) (side : Side) (part : StoredView R)
    → i < length parts → AreTold opening (get_or parts i part) (get_or sides i side).told.receipts
told_at opening [] [] are i side part within = absurd (omega (arith, within))
told_at opening [] (p ∷ parts) are i side part within = absurd are
told_at opening (s ∷ sides) [] are i side part within = absurd are
told_at opening (s ∷ sides) (p ∷ parts) are zero side part within = are.0.1
told_at {R} opening (s ∷ sides) (p ∷ parts) are (suc i) side part within = told_at opening sides parts are.1 i side part (omega (arith, within))

-- and no place has two fresh ones
pub all_once : {R : Type 0} → SameAreEqual → (opening : Held) (terms : TermsView) (identity : Identity) (parts : List (StoredView R)) → AreShards terms identity parts
    → (sides : List Side) → length sides ≡ length parts → AreBeside opening sides parts
    → ((i : ℕ) (side : Side) → i < length sides → (sub : Sub) (place : ℕ) → times place (own sub (get_or sides i side).told.receipts) ≤ 1)
    → (sub : Sub) (place : ℕ) → times_in sub place (told_in sides) ≤ 1
all_once {R} same opening terms identity [] shards sides as_many are most sub place =
    let none : times_in sub place (told_in sides) ≡ 0 = told_none sub place sides (λ i side within. absurd (omega (arith, within, as_many))) in omega (arith, none)
all_once {R} same opening terms identity (none ∷ others) shards sides as_many are most sub place =
    let parts : List (StoredView R) = none ∷ others in
    told_once sub place (shard_of sub (length parts)) sides (λ i side within. most i side within sub place)
    (λ i side within some. kept_here same opening terms identity parts shards sub place i none (omega (arith, within, as_many)) (get_or sides i side).told.receipts
    (told_at opening sides parts are i side none (omega (arith, within, as_many))) some)

filter_more : {X : Type 0} (p : X → Bool) (xs ys : List X) → filter p (xs ++ ys) ≡ filter p xs ++ filter p ys
filter_more p [] ys = refl
filter_more {X} p (x ∷ xs) ys = elim (cases_Bool (p x)) [
  | inl passes ↦ rw passes (ap (λ (l : List X). x ∷ l) (filter_more p xs ys))
  | inr out ↦ rw out (filter_more p xs ys)
]

-- one receipt more counts for nothing, or for its own place
pub next_time : (sub : Sub) (place : ℕ) (receipts : List Receipt) (i : ℕ) (r : Receipt) → i < length receipts → r ≡ get_or receipts i r
    → 0 < times place (own sub (take (i + 1) receipts))
    → (0 < times place (own sub (take i receipts))) ⊎ ((same_sub r.sub sub ≡ true) × (r.fresh ≡ true) × (r.place ≡ place))
next_time sub place receipts i r within is some =
    let list : take (i + 1) receipts ≡ take i receipts ++ r ∷ [] = take_more receipts i r within ∙ ap (λ (x : Receipt). take i receipts ++ x ∷ []) (sym is) in
    let all : times place (own sub (take (i + 1) receipts)) ≡ times place (own sub (take i receipts)) + times place (own sub (r ∷ [])) =
    ap (λ (l : List Receipt). times place (own sub l)) list
    ∙ (ap (times place) (filter_more (λ (x : Receipt). same_sub x.sub sub) (take i receipts) (r ∷ []))
    ∙ sum_by-append (λ (x : Receipt). cond (x.fresh && (x.place == place)) 1 0) (own sub (take i receipts)) (own sub (r ∷ []))) in
    elim (one_more_time sub place r []) [
      | inl counts ↦ inr (counts.0, counts.1, counts.3)
      | inr same_count ↦ inl (omega (arith, some, all, same_count))
    ]

-- a fresh receipt counts for its own place
pub own_time : (receipts : List Receipt) (i : ℕ) (r : Receipt) → i < length receipts → r ≡ get_or receipts i r → r.fresh ≡ true → same_sub r.sub r.sub ≡ true
    → 0 < times r.place (own r.sub receipts)
own_time [] i r within is fresh same = absurd (omega (arith, within))
own_time (x ∷ rest) zero r within is fresh same =
    subst (λ (y : Receipt). 0 < times r.place (own r.sub (y ∷ rest))) is
    (let mine : own r.sub (r ∷ rest) ≡ r ∷ own r.sub rest = rw same refl in
    let here : (r.fresh && (r.place == r.place)) ≡ true = grind (arith, nat_tests) in
    let count : times r.place (r ∷ own r.sub rest) ≡ cond (r.fresh && (r.place == r.place)) 1 0 + times r.place (own r.sub rest) =
    sum_by-cons (λ (y : Receipt). cond (y.fresh && (y.place == r.place)) 1 0) r (own r.sub rest) in
    let one : times r.place (r ∷ own r.sub rest) ≡ 1 + times r.place (own r.sub rest) = count ∙ rw here refl in omega (arith, ap (times r.place) mine, one))
own_time (x ∷ rest) (suc i) r within is fresh same =
    let later = own_time rest i r (omega (arith, within)) is fresh same in
    elim (one_more_time r.sub r.place x rest) [
      | inl counts ↦ omega (arith, counts.2, later)
      | inr same_count ↦ omega (arith, same_count, later)
    ]

-- the receipts of all
pub times_both : (sub : Sub) (place : ℕ) (sides : List Side) (seats : List (List Receipt))
    → times_in sub place (told_in sides ++ seats) ≡ times_in sub place (told_in sides) + times_in sub place seats
times_both sub place sides seats = sum_by-append (λ (receipts : List Receipt). times place (own sub receipts)) (told_in sides) seats

-- one seat more that has no place of the audited receipts
pub still_apart : (sides : List Side) (seats : List (List Receipt)) (i : ℕ) (seat : List Receipt) → i < length seats → seat ≡ get_or seats i seat
    → ((sub : Sub) (place : ℕ) → 0 < times_in sub place (take i seats) → times_in sub place (told_in sides) ≡ 0)
    → ((sub : Sub) (place : ℕ) → 0 < times place (own sub seat) → times_in sub place (told_in sides) ≡ 0)
    → (sub : Sub) (place : ℕ) → 0 < times_in sub place (take (i + 1) seats) → times_in sub place (told_in sides) ≡ 0
still_apart sides seats i seat within is before here sub place some =
    let f : List Receipt → ℕ = λ receipts. times place (own sub receipts) in
    let count : sum_by f (take (i + 1) seats) ≡ sum_by f (take i seats) + f (get_or seats i seat) = sum_by_more f seats i seat within in
    let this : f (get_or seats i seat) ≡ f seat = ap f (sym is) in
    elim (zero_or_more (sum_by f (take i seats))) [
      | inl zero_times ↦ here sub place (omega (arith, some, count, this, zero_times))
      | inr earlier ↦ before sub place earlier
    ]
  where
    zero_or_more : (n : ℕ) → (n ≡ 0) ⊎ (0 < n)
    zero_or_more zero = inl refl
    zero_or_more (suc n) = inr (omega arith)

-- a place without a fresh receipt has none among all
pub uncovered : (marks : MarksView) (sides : List Side) (seats : List (List Receipt)) (sub : Sub) (place : ℕ) → AreMarked marks seats → (IsCovered marks sides sub place → ⊥)
    → times_in sub place (told_in sides ++ seats) ≡ 1 → ⊥
uncovered marks sides seats sub place are_marks none one =
    let all = times_both sub place sides seats in
    let count = are_marks sub place in
    elim (cases_Bool (is_marked marks sub place)) [
      | inl marked ↦ none (inl marked)
      | inr unmarked ↦
          let free : times_in sub place seats ≡ 0 = sym count ∙ rw unmarked refl in
          none (inr (omega (arith, all, free, one)))
    ]

saturated : (sum acts most m n k : ℕ) → m ≡ min sum most → n ≡ min acts most → k ≡ min (m + n) most → k ≡ min (sum + acts) most
saturated sum acts most m n k was one is = omega arith

-- the acts of one list of audited receipts more
pub told_more : (sides : List Side) (i : ℕ) (side : Side) (m n k : ℕ) → i < length sides → side ≡ get_or sides i side → m ≡ acts_told (take i sides)
    → n ≡ min (acts_of side.told.receipts) (2 ^ 64 - 1) → k ≡ min (m + n) (2 ^ 64 - 1) → k ≡ acts_told (take (i + 1) sides)
told_more sides i side m n k within at was one is =
    let f : Side → ℕ = λ s. acts_of s.told.receipts in
    saturated (sum_by f (take i sides)) (f side) (2 ^ 64 - 1) m n k was one is
    ∙ ap (λ sum. min sum (2 ^ 64 - 1)) (ap (λ acts. sum_by f (take i sides) + acts) (ap f at) ∙ sym (sum_by_more f sides i side within))
