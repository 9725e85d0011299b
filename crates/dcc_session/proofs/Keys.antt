-- Keys of services: two of one service are equal.
use Rattle.std.proofs.Common.{◌≡◌, ℕ, true, false, not, List, ◌∷◌, refl, sym, ap, ◌∙◌, inl, inr, Option, Some, None}
use Rattle.std.specs.List.{list_any}
use Rattle.std.proofs.lemmas.Bool.{cases_Bool, and_parts, not-true, eqb-true}
use Rattle.dcc_act.specs.ServiceKeys.{same_number, same_service, are_apart}
use Rattle.dcc_act.specs.declared.service_key.ServiceKey.{ServiceKey}

same_number-true : (a b : Option ℕ) → same_number a b ≡ true → a ≡ b
same_number-true None None h = refl
same_number-true None (Some b) h = absurd cc
same_number-true (Some a) None h = absurd cc
same_number-true (Some a) (Some b) h = let e = eqb-true a b h in ap (λ (n : ℕ). Some n) e

pub same_service-true : (a b : ServiceKey) → same_service a b ≡ true → a ≡ b
same_service-true a b h =
    let p = and_parts (same_number a.group b.group) (same_number a.id b.id) h in
    let groups = same_number-true a.group b.group p.0 in
    let ids = same_number-true a.id b.id p.1 in
    let with_group : Option ℕ → ServiceKey = λ g. record { group = g; id = a.id } in
    let with_id : Option ℕ → ServiceKey = λ i. record { group = b.group; id = i } in
    ap with_group groups ∙ ap with_id ids

pub same_both_ways : (a b : ServiceKey) → same_service a b ≡ false → same_service b a ≡ false
same_both_ways a b h =
    elim (cases_Bool (same_service b a)) [
      | inl t ↦
          let e = same_service-true b a t in
          let turned : same_service a b ≡ true = ap (same_service a) e ∙ ap (λ (k : ServiceKey). same_service k a) (sym e) ∙ t in
          absurd cc
      | inr f ↦ f
    ]

-- a first key is apart from the others, and those from one another
pub apart_parts : (key : ServiceKey) (keys : List ServiceKey) → are_apart (key ∷ keys) ≡ true
    → (list_any (same_service key) keys ≡ false) × (are_apart keys ≡ true)
apart_parts key keys h =
    let parts = and_parts (not (list_any (same_service key) keys)) (are_apart keys) h in
    (not-true (list_any (same_service key) keys) parts.0, parts.1)
