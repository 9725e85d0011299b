-- The services of a request, one after another.
use Rattle.std.specs.Prelude.{nat_le, ◌&&◌}
use Rattle.std.proofs.Common.{◌≡◌, ℕ, zero, suc, ◌+◌, ◌<◌, ◌≤◌, sum_by, true, false, not, ◌||◌, List, [], ◌∷◌, length, get_or, take, refl, sym, ap, ◌∙◌, inl, inr, arith, filter, map, Option, unwrap_or, ℤ, pos, ◌-ℤ◌}
use Rattle.std.specs.List.{list_any, fold}
use Rattle.std.proofs.lemmas.Int.{ints}
use Rattle.std.proofs.lemmas.Bool.{cases_Bool, and_parts, or_parts}
use Rattle.std.proofs.lemmas.List.Filters.{sum_by-filter_both}
use Rattle.dcc_act.specs.ServiceKeys.{same_service, are_apart}
use Rattle.dcc_act.specs.Services.{ServiceView, service_key, stand_right, are_services}
use Rattle.dcc_act.specs.declared.limits.TheConstants.{MAX_SERVICES, MAX_IDS}
use Rattle.dcc_act.specs.declared.grant.Grant.{Grant}
use Rattle.dcc_act.specs.declared.service_key.ServiceKey.{ServiceKey}
use Rattle.dcc_session.specs.declared.held.Held.{Held}
use Rattle.dcc_session.specs.Grants.{live_in, without, held_price, prices, charge_by, cost_in, overrun_in, is_named, left_by, is_given_back, given_back, left_of}
use Rattle.dcc_session.proofs.Keys.{same_service-true, same_both_ways, apart_parts}

-- the services of a request have keys of their own
pub apart_of : (services : List ServiceView) → are_services services ≡ true → are_apart (map service_key services) ≡ true
apart_of services h =
    let few = nat_le (length services) MAX_SERVICES in
    let short = nat_le (sum_by (λ (service : ServiceView). length service.ids) services) MAX_IDS in
    let apart = are_apart (map service_key services) in
    (and_parts (few && short) apart (and_parts ((few && short) && apart) (stand_right services) h).0).1

-- another service's grant is as it was
live_without : (own : List Held) (key other : ServiceKey) → same_service key other ≡ false → live_in (without own other) key ≡ live_in own key
live_without [] key other apart = refl
live_without (held ∷ own) key other apart =
    let rest = live_without own key other apart in
    elim (cases_Bool (same_service held.key other)) [
      | inl t ↦
          let same = same_service-true held.key other t in
          let not_here : same_service held.key key ≡ false = same_both_ways key held.key (ap (same_service key) same ∙ apart) in
          rw (t, not_here) rest
      | inr f ↦ elim (cases_Bool (same_service held.key key)) [ inl t ↦ rw (f, t) refl | inr g ↦ rw (f, g) rest ]
    ]

live_one : (own : List Held) (key : ServiceKey) (service : ServiceView) → same_service key (service_key service) ≡ false
    → live_in (left_by own service) key ≡ live_in own key
live_one own key service apart =
    elim (cases_Bool (is_named service)) [ inl t ↦ rw t (live_without own key (service_key service) apart) | inr f ↦ rw f refl ]

live_left : (services : List ServiceView) (own : List Held) (key : ServiceKey) → list_any (same_service key) (map service_key services) ≡ false
    → live_in (fold left_by own services) key ≡ live_in own key
live_left [] own key apart = refl
live_left (service ∷ services) own key apart =
    let parts = or_parts (same_service key (service_key service)) (list_any (same_service key) (map service_key services)) apart in
    live_left services (left_by own service) key parts.1 ∙ live_one own key service parts.0

none_at : (services : List ServiceView) (i : ℕ) (service : ServiceView) (key : ServiceKey) → list_any (same_service key) (map service_key services) ≡ false
    → i < length services → service ≡ get_or services i service → same_service key (service_key service) ≡ false
none_at [] i service key apart within is = absurd (omega arith)
none_at (first ∷ services) zero service key apart within is =
    let parts = or_parts (same_service key (service_key first)) (list_any (same_service key) (map service_key services)) apart in
    ap (λ (s : ServiceView). same_service key (service_key s)) is ∙ parts.0
none_at (first ∷ services) (suc i) service key apart within is =
    let parts = or_parts (same_service key (service_key first)) (list_any (same_service key) (map service_key services)) apart in
    none_at services i service key parts.1 (omega arith) is

-- a service is apart from those before it
apart_before : (services : List ServiceView) (i : ℕ) (service : ServiceView) → are_apart (map service_key services) ≡ true → i < length services
    → service ≡ get_or services i service → list_any (same_service (service_key service)) (map service_key (take i services)) ≡ false
apart_before [] i service apart within is = absurd (omega arith)
apart_before (first ∷ services) zero service apart within is = refl
apart_before (first ∷ services) (suc i) service apart within is =
    let parts = apart_parts (service_key first) (map service_key services) apart in
    let rest = apart_before services i service parts.1 (omega arith) is in
    let there = none_at services i service (service_key first) parts.0 (omega arith) is in
    rw (same_both_ways (service_key first) (service_key service) there, rest) refl

-- so it has then the grant that it has at first
pub live_later : (own : List Held) (services : List ServiceView) (i : ℕ) (service : ServiceView) → are_apart (map service_key services) ≡ true
    → i < length services → service ≡ get_or services i service → live_in (fold left_by own (take i services)) (service_key service) ≡ live_in own (service_key service)
live_later own services i service apart within is =
    live_left (take i services) own (service_key service) (apart_before services i service apart within is)

-- and its report costs what it does at first
pub cost_later : (own : List Held) (services : List ServiceView) (i : ℕ) (service : ServiceView) → are_apart (map service_key services) ≡ true
    → i < length services → service ≡ get_or services i service → cost_in (fold left_by own (take i services)) service ≡ cost_in own service
cost_later own services i service apart within is =
    ap (λ (live : Option Grant). unwrap_or (charge_by live service) 0) (live_later own services i service apart within is)

-- what is in neither is left by both
left_twice : (services : List ServiceView) (key : ServiceKey) (own : List Held)
    → filter (λ (held : Held). not (is_given_back services held)) (without own key)
    ≡ filter (λ (held : Held). not (same_service held.key key || is_given_back services held)) own
left_twice services key [] = refl
left_twice services key (held ∷ own) =
    let rest = left_twice services key own in
    elim (cases_Bool (same_service held.key key)) [
      | inl t ↦ rw t rest
      | inr f ↦ elim (cases_Bool (is_given_back services held)) [ inl t ↦ rw (f, t) rest | inr g ↦ rw (f, g) (ap (λ (hs : List Held). held ∷ hs) rest) ]
    ]

all_left : (own : List Held) → left_of own [] ≡ own
all_left [] = refl
all_left (held ∷ own) = ap (λ (hs : List Held). held ∷ hs) (all_left own)

-- the grants that are left, one service after another, are those that no service gives back
pub left_is : (services : List ServiceView) (own : List Held) → fold left_by own services ≡ left_of own services
left_is [] own = sym (all_left own)
left_is (service ∷ services) own =
    let rest = left_is services (left_by own service) in
    elim (cases_Bool (is_named service)) [
      | inl t ↦ rest ∙ rw t (left_twice services (service_key service) own)
      | inr f ↦ rest ∙ rw f refl
    ]

-- what is given back and what is left are all
pub given_and_left : (own : List Held) (services : List ServiceView) → given_back own services + prices (left_of own services) ≡ prices own
given_and_left own services = sum_by-filter_both (is_given_back services) (λ (held : Held). not (is_given_back services held)) (λ held. refl) held_price own

-- no report exceeds what was granted by more than its charge
pub overrun_less : (own : List Held) (service : ServiceView) → overrun_in own service ≤ cost_in own service
overrun_less own service = omega arith

-- what one more report is charged
pub committed_more : (first before after : ℤ) (sum cost more : ℕ) → before ≡ first -ℤ pos sum → after ≡ before -ℤ pos cost → (own : ℕ) → cost ≡ own → more ≡ sum + own → after ≡ first -ℤ pos more
committed_more first before after sum cost more b a own c m = omega (arith, ints)
