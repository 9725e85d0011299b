-- The grants that a session holds, among all that are live.
use Rattle.std.proofs.Common.{◌≡◌, ℕ, ◌+◌, ◌-◌, ℤ, true, not, ◌&&◌, List, [], ◌∷◌, ◌++◌, map, refl, ap, ◌∙◌, inl, inr, filter, sum_by, bytes_eq, Option, arith}
use Rattle.std.specs.Prelude.{find, option_map, unwrap_or, is_some, is_none}
use Rattle.std.specs.List.{list_any, AllByRecursion}
use Rattle.std.specs.Option.{option_and_then, option_or, option_map_or}
use Rattle.std.proofs.lemmas.Bool.{cases_Bool}
use Rattle.std.proofs.lemmas.Int.{ints}
use Rattle.std.proofs.lemmas.List.Filters.{sum_by-filter_both}
use Rattle.std.proofs.lemmas.List.Sums.{sum_by-cons}
use Rattle.dcc_tariff.specs.Prices.{price}
use Rattle.dcc_tariff.specs.Terms.{TermsView}
use Rattle.dcc_act.specs.ServiceKeys.{same_service}
use Rattle.dcc_act.specs.Services.{ServiceView, service_key}
use Rattle.dcc_act.specs.declared.grant.Grant.{Grant}
use Rattle.dcc_act.specs.declared.outcome.ServiceAnswer.{ServiceAnswer}
use Rattle.dcc_act.specs.declared.service_key.ServiceKey.{ServiceKey}
use Rattle.dcc_model.specs.declared.done.Done.{Done}
use Rattle.dcc_model.specs.Laws.{is_at}
use Rattle.dcc_model.specs.Money.{grant_price, live_price, charge, is_unrated, charges, overruns, held_price, reserved_of, free_of, is_replaced, reserved_beside, room}
use Rattle.dcc_model.specs.Outcomes.{answer_to, answers}
use Rattle.dcc_model.specs.Entries.{charge_entry, charge_entries}
use Rattle.dcc_model.specs.Sessions.{Sid, Live, is_open, live, lives, named}
use Rattle.dcc_session.specs.declared.held.Held.{Held}
use Rattle.dcc_session.specs.Grants.{live_in, charge_in, charges_in, overruns_in, is_given_back, given_back}
use Rattle.dcc_state.specs.OpenSessions.{held_of, is_of, grants_of}
use Rattle.dcc_state.specs.inner.Grants.{is_unrated_in, room_in, answer_to_in, answers_in, charge_entries_in}
use Rattle.dcc_state.proofs.Finds.{sums_alike, maps_alike}

-- what is known of acts that were made: each service's live grant is the one that all live grants have for it, and each of
-- these is of an open session
pub record IsSound (terms : TermsView) (past : List Done) : Type 0 where
  pub found : (sid : Sid) (key : ServiceKey) → live terms past sid key ≡ option_map (λ (held : Live). held.grant) (find (is_at sid key) (lives terms past))
  pub are_open : AllByRecursion (λ (held : Live). is_open terms past held.sid ≡ true) (lives terms past)

own_found : (sid : Sid) (key : ServiceKey) (all : List Live)
    → option_map (λ (held : Live). held.grant) (find (is_at sid key) all) ≡ live_in (map held_of (filter (is_of sid) all)) key
own_found sid key [] = refl
own_found sid key (held ∷ all) =
    let rest = own_found sid key all in
    elim (cases_Bool (bytes_eq sid held.sid)) [
      | inl t ↦ elim (cases_Bool (same_service held.key key)) [ inl s ↦ rw (t, s) refl | inr f ↦ rw (t, f) rest ]
      | inr f ↦ rw f rest
    ]

pub live_is : (terms : TermsView) (past : List Done) → IsSound terms past → (sid : Sid) (key : ServiceKey) → live terms past sid key ≡ live_in (grants_of terms past sid) key
live_is terms past sound sid key = sound.found sid key ∙ own_found sid key (lives terms past)

pub charge_is : (terms : TermsView) (past : List Done) → IsSound terms past → (sid : Sid) (service : ServiceView) → charge terms past sid service ≡ charge_in (grants_of terms past sid) service
charge_is terms past sound sid service =
    ap (λ (grant : Option Grant). option_and_then (λ units. option_map (λ tariff. price tariff units) (option_or (option_map (λ (grant : Grant). grant.tariff) grant) service.tariff)) service.used)
    (live_is terms past sound sid (service_key service))

pub charges_are : (terms : TermsView) (past : List Done) → IsSound terms past → (sid : Sid) (services : List ServiceView) → charges terms past sid services ≡ charges_in (grants_of terms past sid) services
charges_are terms past sound sid services =
    sums_alike _ _ (λ service. ap (λ (cost : Option ℕ). unwrap_or cost 0) (charge_is terms past sound sid service)) services

pub overruns_are : (terms : TermsView) (past : List Done) → IsSound terms past → (sid : Sid) (services : List ServiceView) → overruns terms past sid services ≡ overruns_in (grants_of terms past sid) services
overruns_are terms past sound sid services =
    let own = grants_of terms past sid in
    sums_alike _ _ (λ service.
    ap (λ (cost : Option ℕ). unwrap_or cost 0 - live_price terms past sid (service_key service)) (charge_is terms past sound sid service)
    ∙ ap (λ (grant : Option Grant). unwrap_or (charge_in own service) 0 - option_map_or grant_price grant 0) (live_is terms past sound sid (service_key service))) services

replaced_are : (sid : Sid) (services : List ServiceView) (all : List Live)
    → sum_by held_price (filter (is_replaced sid services) all) ≡ given_back (map held_of (filter (is_of sid) all)) services
replaced_are sid services [] = refl
replaced_are sid services (held ∷ all) =
    let rest = replaced_are sid services all in
    let more = filter (is_replaced sid services) all in
    let own = filter (is_given_back services) (map held_of (filter (is_of sid) all)) in
    elim (cases_Bool (bytes_eq sid held.sid)) [
      | inl t ↦ elim (cases_Bool (list_any (same_service held.key) (named services))) [
        | inl s ↦ rw (t, s, sum_by-cons held_price held more, sum_by-cons (λ (h : Held). grant_price h.grant) (held_of held) own, rest) refl
        | inr f ↦ rw (t, f) rest
      ]
      | inr f ↦ rw f rest
    ]

-- what is reserved is what a request leaves and what it gives back
pub reserved_is : (terms : TermsView) (past : List Done) (sid : Sid) (services : List ServiceView)
    → reserved_beside terms past sid services + given_back (grants_of terms past sid) services ≡ reserved_of terms past
reserved_is terms past sid services =
    let both = sum_by-filter_both (is_replaced sid services) (λ held. not (is_replaced sid services held)) (λ held. refl) held_price (lives terms past) in
    let own = replaced_are sid services (lives terms past) in
    omega arith

pub room_is : (terms : TermsView) (past : List Done) → IsSound terms past → (sid : Sid) (services : List ServiceView) (before : List ServiceAnswer)
    → room terms past sid services before ≡ room_in (free_of terms past) (grants_of terms past sid) services before
room_is terms past sound sid services before =
    let charged = charges_are terms past sound sid services in
    let reserved = reserved_is terms past sid services in
    omega (arith, ints)

pub answer_is : (terms : TermsView) (past : List Done) → IsSound terms past → (sid : Sid) (service : ServiceView) (space : ℤ)
    → answer_to terms past sid service space ≡ answer_to_in (grants_of terms past sid) service space
answer_is terms past sound sid service space =
    let unrated : is_unrated terms past sid service ≡ is_unrated_in (grants_of terms past sid) service = ap (λ (cost : Option ℕ). is_some service.used && is_none cost) (charge_is terms past sound sid service) in
    rw unrated refl

pub answers_are : (terms : TermsView) (past : List Done) → IsSound terms past → (sid : Sid) (services : List ServiceView) (before : List ServiceAnswer) (rest : List ServiceView)
    → answers terms past sid services before rest ≡ answers_in (free_of terms past) (grants_of terms past sid) services before rest
answers_are terms past sound sid services before [] = refl
answers_are terms past sound sid services before (service ∷ rest) =
    let own = grants_of terms past sid in
    let here = ap (answer_to terms past sid service) (room_is terms past sound sid services before) ∙ answer_is terms past sound sid service (room_in (free_of terms past) own services before) in
    ap (λ (answer : ServiceAnswer). answer ∷ answers terms past sid services (before ++ answer ∷ []) rest) here
    ∙ ap (λ (more : List ServiceAnswer). answer_to_in own service (room_in (free_of terms past) own services before) ∷ more)
    (answers_are terms past sound sid services (before ++ answer_to_in own service (room_in (free_of terms past) own services before) ∷ []) rest)

pub charge_entries_are : (terms : TermsView) (past : List Done) → IsSound terms past → (place moment : ℕ) (sid : Sid) (services : List ServiceView)
    → charge_entries terms past place moment sid services ≡ charge_entries_in (grants_of terms past sid) place moment sid services
charge_entries_are terms past sound place moment sid services =
    maps_alike _ _ (λ service. ap (option_map (charge_entry place moment sid service)) (charge_is terms past sound sid service)) services
