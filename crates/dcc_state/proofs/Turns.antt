-- What a session's turn finds and leaves.
use Rattle.std.proofs.Common.{All, ◌≡◌, ℕ, zero, suc, ◌+◌, ◌-◌, ◌<◌, ◌≤◌, pos, ◌-ℤ◌, true, not, List, [], ◌∷◌, ◌++◌, length, get_or, map, filter, sum_by, refl, ap, ◌∙◌, inl, inr, arith, Option, Some, None}
use Rattle.std.specs.Prelude.{option_map}
use Rattle.std.specs.List.{list_any, AllByRecursion}
use Rattle.std.proofs.lemmas.Bool.{and_parts, eqb-true}
use Rattle.std.proofs.lemmas.Int.{ints}
use Rattle.std.proofs.lemmas.List.Filters.{length-filter_both}
use Rattle.std.proofs.lemmas.List.Sums.{sum_by-append, sum_by_push}
use Rattle.dcc_escrow.specs.Pools.{PoolView, IsCovered, free}
use Rattle.dcc_act.specs.ServiceKeys.{same_number, same_service}
use Rattle.dcc_act.specs.Services.{ServiceView, service_key}
use Rattle.dcc_act.specs.declared.service_key.ServiceKey.{ServiceKey}
use Rattle.dcc_session.specs.declared.held.Held.{Held}
use Rattle.dcc_session.specs.Grants.{held_price, prices, live_in, is_named, is_given_back, given_back, left_of, charges_in}
use Rattle.dcc_state.specs.Backed.{IsAffordable}
use Rattle.dcc_state.specs.Known.{prices_of}
use Rattle.dcc_state.specs.OpenSessions.{SessionView}
use Rattle.dcc_state.proofs.Finds.{find_dropped}

same_number-true : (a b : Option ℕ) → same_number a b ≡ true → a ≡ b
same_number-true None None h = refl
same_number-true None (Some b) h = absurd cc
same_number-true (Some a) None h = absurd cc
same_number-true (Some a) (Some b) h = let e = eqb-true a b h in ap (λ (n : ℕ). Some n) e

same_service-true : (a b : ServiceKey) → same_service a b ≡ true → a ≡ b
same_service-true a b h =
    let p = and_parts (same_number a.group b.group) (same_number a.id b.id) h in
    let groups = same_number-true a.group b.group p.0 in
    let ids = same_number-true a.id b.id p.1 in
    let with_group : Option ℕ → ServiceKey = λ g. record { group = g; id = a.id } in
    let with_id : Option ℕ → ServiceKey = λ i. record { group = b.group; id = i } in
    ap with_group groups ∙ ap with_id ids

-- what a service gives back, it doesn't have any more
live_gone : (own : List Held) (services : List ServiceView) (held : Held) → is_given_back services held ≡ true → live_in (left_of own services) held.key ≡ None
live_gone own services held given =
    let gives : ServiceKey → _ = λ key. list_any (same_service key) (map service_key (filter is_named services)) in
    ap (option_map (λ (held : Held). held.grant))
    (find_dropped (λ (other : Held). same_service other.key held.key) (λ (other : Held). not (is_given_back services other)) own
    (λ other same. ap not (ap gives (same_service-true other.key held.key same) ∙ given)))

free_at : (own : List Held) (services : List ServiceView) (made : List Held) → AllByRecursion (λ (held : Held). is_given_back services held ≡ true) made
    → (k : ℕ) (d : Held) → k < length made → live_in (left_of own services) (get_or made k d).key ≡ None
free_at own services [] all k d lt = absurd (omega arith)
free_at own services (held ∷ made) all zero d lt = live_gone own services held all.0
free_at own services (held ∷ made) all (suc k) d lt = free_at own services made all.1 k d (omega arith)

-- so the services that a request grants to have no grant when it does
pub are_free : (own left : List Held) (services : List ServiceView) (made : List Held) → left ≡ left_of own services → AllByRecursion (λ (held : Held). is_given_back services held ≡ true) made
    → All (λ (held : Held). live_in left held.key ≡ None) made
are_free own left services made is all = λ k d lt. ap (λ (grants : List Held). live_in grants (get_or made k d).key) is ∙ free_at own services made all k d lt

-- and there is room for what is left
pub fewer : (own left : List Held) (services : List ServiceView) → left ≡ left_of own services → length left ≤ length own
fewer own left services is =
    let parts = length-filter_both (is_given_back services) (λ (held : Held). not (is_given_back services held)) (λ held. refl) own in
    let same = ap (λ (grants : List Held). length grants) is in
    omega arith

-- what is granted is covered once the reports are charged and what was held is given back
pub covered_then : (before after : PoolView) (own : List Held) (services : List ServiceView) (made : List Held) → IsAffordable (free before) own services made
    → given_back own services ≤ before.reserved
    → after ≡ record { id = before.id; committed = before.committed -ℤ pos (charges_in own services); reserved = before.reserved - given_back own services }
    → IsCovered after (prices made)
covered_then before after own services made affordable enough is =
    let committed = ap (λ (p : PoolView). p.committed) is in
    let reserved = ap (λ (p : PoolView). p.reserved) is in
    elim affordable [
      | inl nothing ↦ inl nothing
      | inr fits ↦ inr (omega (arith, ints))
    ]

-- what the sessions hold with the one that had its turn
pub held_with : (others sessions : List SessionView) (last : SessionView) (made left : List Held) → sessions ≡ others ++ last ∷ [] → last.grants ≡ made ++ left
    → sum_by prices_of sessions ≡ sum_by prices_of others + (prices made + prices left)
held_with others sessions last made left is grants =
    ap (sum_by prices_of) is ∙ sum_by_push prices_of others last ∙ ap (λ (n : ℕ). sum_by prices_of others + n) (ap prices grants ∙ sum_by-append held_price made left)
