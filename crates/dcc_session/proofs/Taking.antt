-- A grant is taken out of a list of grants, where no service has two.
use Rattle.std.proofs.Common.{All}
use Rattle.std.proofs.lemmas.List.{map-append}
use Rattle.std.proofs.Common.{◌≡◌, ℕ, zero, suc, ◌+◌, ◌<◌, ◌≤◌, Bool, true, false, List, [], ◌∷◌, ◌++◌, length, get_or, refl, sym, ap, ◌∙◌, inl, inr, arith, map, Some, None}
use Rattle.std.specs.Prelude.{position, remove, nat_lt}
use Rattle.std.specs.List.{list_any, position_or_len}
use Rattle.std.proofs.lemmas.Bool.{cases_Bool, or_parts}
use Rattle.std.proofs.lemmas.Bool.Decides.{nat_tests}
use Rattle.dcc_act.specs.ServiceKeys.{same_service, are_apart}
use Rattle.dcc_act.specs.declared.grant.Grant.{Grant}
use Rattle.dcc_act.specs.declared.service_key.ServiceKey.{ServiceKey}
use Rattle.dcc_session.specs.declared.held.Held.{Held}
use Rattle.std.proofs.lemmas.List.Sums.{sum_by-cons}
use Rattle.dcc_session.specs.Grants.{key_of_held, live_in, without, price_of_grant, held_price, prices, live_price_in}
use Rattle.dcc_session.proofs.Keys.{same_service-true, same_both_ways, apart_parts}

-- whether a grant is the service's
abbrev pub is_for : ServiceKey → Held → Bool
is_for key held = same_service held.key key

-- where no other grant is of its service, all are left
none_of : (key : ServiceKey) (grants : List Held) → list_any (same_service key) (map key_of_held grants) ≡ false → without grants key ≡ grants
none_of key [] h = refl
none_of key (held ∷ grants) h =
    let parts = or_parts (same_service key held.key) (list_any (same_service key) (map key_of_held grants)) h in
    rw (same_both_ways key held.key parts.0, none_of key grants parts.1) refl

-- what is taken out at the first place of a service is its grant, and the others are left
pub taken_at : (grants : List Held) (key : ServiceKey) (i : ℕ) (d : Held) → i < length grants
    → is_for key (get_or grants i d) ≡ true → ((k : ℕ) → k < i → is_for key (get_or grants k d) ≡ false)
    → are_apart (map key_of_held grants) ≡ true
    → (live_in grants key ≡ Some (get_or grants i d).grant) × (remove grants i ≡ without grants key)
taken_at [] key i d within here before apart = absurd (omega arith)
taken_at (held ∷ grants) key zero d within here before apart =
    let parts = apart_parts held.key (map key_of_held grants) apart in
    let same = same_service-true held.key key here in
    let others : list_any (same_service key) (map key_of_held grants) ≡ false
    = ap (λ (k : ServiceKey). list_any (same_service k) (map key_of_held grants)) (sym same) ∙ parts.0 in
    let found : live_in (held ∷ grants) key ≡ Some held.grant = rw here refl in
    let left : grants ≡ without (held ∷ grants) key = rw here (sym (none_of key grants others)) in
    (found, left)
taken_at (held ∷ grants) key (suc i) d within here before apart =
    let parts = apart_parts held.key (map key_of_held grants) apart in
    let first : same_service held.key key ≡ false = before zero (omega arith) in
    let rest = taken_at grants key i d (omega arith) here (λ k lt. before (suc k) (omega arith)) parts.1 in
    let found : live_in (held ∷ grants) key ≡ Some (get_or grants i d).grant = rw first rest.0 in
    let left : (held ∷ remove grants i) ≡ without (held ∷ grants) key = rw (first, rest.1) refl in
    (found, left)

-- where the walk comes to the end, the service has none, and all are left
walked : (grants : List Held) (key : ServiceKey) → length grants ≤ position_or_len (is_for key) grants
    → (live_in grants key ≡ None) × (without grants key ≡ grants)
walked [] key h = (refl, refl)
walked (held ∷ grants) key h =
    elim (cases_Bool (same_service held.key key)) [
      | inl t ↦ let short : length (held ∷ grants) ≤ 0 = rw t at h in absurd (omega arith)
      | inr f ↦
          let short : length (held ∷ grants) ≤ 1 + position_or_len (is_for key) grants = rw f at h in
          let rest = walked grants key (omega arith) in
          let none : live_in (held ∷ grants) key ≡ None = rw f rest.0 in
          let left : without (held ∷ grants) key ≡ held ∷ grants = rw (f, rest.1) refl in
          (none, left)
    ]

pub not_there : (grants : List Held) (key : ServiceKey) → position (is_for key) grants ≡ None
    → (live_in grants key ≡ None) × (without grants key ≡ grants)
not_there grants key h =
    elim (cases_Bool (nat_lt (position_or_len (is_for key) grants) (length grants))) [
      | inl t ↦
          let some : Some (position_or_len (is_for key) grants) ≡ None = rw t at h in
          absurd cc
      | inr f ↦ walked grants key (grind (arith, nat_tests, f))
    ]

pub remove-map : {X Y : Type 0} (f : X → Y) (xs : List X) (i : ℕ) → remove (map f xs) i ≡ map f (remove xs i)
remove-map f [] zero = refl
remove-map f [] (suc i) = refl
remove-map f (x ∷ xs) zero = refl
remove-map f (x ∷ xs) (suc i) = ap (λ ys. f x ∷ ys) (remove-map f xs i)

-- a service's grant costs no more than all
pub price-le : (grants : List Held) (key : ServiceKey) (grant : Grant) → live_in grants key ≡ Some grant → price_of_grant grant ≤ prices grants
price-le [] key grant h = absurd cc
price-le (first ∷ grants) key grant h =
    let all = sum_by-cons held_price first grants in
    elim (cases_Bool (same_service first.key key)) [
      | inl t ↦
          let found : Some first.grant ≡ Some grant = rw t at h in
          let same : first.grant ≡ grant = cc in
          let cost = ap price_of_grant same in
          omega arith
      | inr f ↦
          let later : live_in grants key ≡ Some grant = rw f at h in
          let rest = price-le grants key grant later in
          omega arith
    ]

-- one that is left stays apart from others
still_apart : (key own : ServiceKey) (grants : List Held) → list_any (same_service own) (map key_of_held grants) ≡ false
    → list_any (same_service own) (map key_of_held (without grants key)) ≡ false
still_apart key own [] h = refl
still_apart key own (held ∷ grants) h =
    let parts = or_parts (same_service own held.key) (list_any (same_service own) (map key_of_held grants)) h in
    let rest = still_apart key own grants parts.1 in
    elim (cases_Bool (same_service held.key key)) [ inl t ↦ rw t rest | inr f ↦ rw (f, parts.0) rest ]

pub apart_without : (grants : List Held) (key : ServiceKey) → are_apart (map key_of_held grants) ≡ true
    → are_apart (map key_of_held (without grants key)) ≡ true
apart_without [] key h = refl
apart_without (held ∷ grants) key h =
    let parts = apart_parts held.key (map key_of_held grants) h in
    let rest = apart_without grants key parts.1 in
    elim (cases_Bool (same_service held.key key)) [
      | inl t ↦ rw t rest
      | inr f ↦ rw (f, still_apart key held.key grants parts.0) rest
    ]

-- a service that has no grant is apart from those that have
fresh : (grants : List Held) (key : ServiceKey) → live_in grants key ≡ None → list_any (same_service key) (map key_of_held grants) ≡ false
fresh [] key h = refl
fresh (held ∷ grants) key h =
    elim (cases_Bool (same_service held.key key)) [
      | inl t ↦ let found : Some held.grant ≡ None = rw t at h in absurd cc
      | inr f ↦
          let later : live_in grants key ≡ None = rw f at h in
          rw (same_both_ways held.key key f) (fresh grants key later)
    ]

pub apart_with : (grants : List Held) (held : Held) → live_in grants held.key ≡ None → are_apart (map key_of_held grants) ≡ true
    → are_apart (map key_of_held (held ∷ grants)) ≡ true
apart_with grants held none apart = rw (fresh grants held.key none) apart

-- what is left and what the service had are all
pub price-without : (grants : List Held) (key : ServiceKey) → are_apart (map key_of_held grants) ≡ true
    → prices (without grants key) + live_price_in grants key ≡ prices grants
price-without [] key apart = refl
price-without (held ∷ grants) key apart =
    let parts = apart_parts held.key (map key_of_held grants) apart in
    let all = sum_by-cons held_price held grants in
    elim (cases_Bool (same_service held.key key)) [
      | inl t ↦
          let same = same_service-true held.key key t in
          let others : list_any (same_service key) (map key_of_held grants) ≡ false
          = ap (λ (k : ServiceKey). list_any (same_service k) (map key_of_held grants)) (sym same) ∙ parts.0 in
          let left = none_of key grants others in
          rw (t, left) (omega arith)
      | inr f ↦
          let rest = price-without grants key parts.1 in
          let kept = sum_by-cons held_price held (without grants key) in
          rw f (omega arith)
    ]

apart_both : (key : ServiceKey) (xs ys : List ServiceKey) → list_any (same_service key) xs ≡ false → list_any (same_service key) ys ≡ false
    → list_any (same_service key) (xs ++ ys) ≡ false
apart_both key [] ys h k = k
apart_both key (x ∷ xs) ys h k =
    let parts = or_parts (same_service key x) (list_any (same_service key) xs) h in
    rw (parts.0, apart_both key xs ys parts.1 k) refl

-- grants that are made to services which have none
pub apart_append : (made grants : List Held) → are_apart (map key_of_held made) ≡ true → All (λ (held : Held). live_in grants held.key ≡ None) made
    → are_apart (map key_of_held grants) ≡ true → are_apart (map key_of_held (made ++ grants)) ≡ true
apart_append [] grants apart free own = own
apart_append (held ∷ made) grants apart free own =
    let parts = apart_parts held.key (map key_of_held made) apart in
    let rest = apart_append made grants parts.1 (λ k d lt. free (suc k) d (omega arith)) own in
    let none = fresh grants held.key (free zero held (omega arith)) in
    let first : list_any (same_service held.key) (map key_of_held (made ++ grants)) ≡ false
    = rw (map-append key_of_held made grants) (apart_both held.key (map key_of_held made) (map key_of_held grants) parts.0 none) in
    rw (first, rest) refl
