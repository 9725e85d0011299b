-- What stands behind a change of the open sessions.
use Rattle.std.proofs.Common.{◌≡◌, ℕ, zero, suc, ◌+◌, ℤ, pos, ◌≤ℤ◌, Bool, true, false, not, ◌==◌, ◌≢◌, List, [], ◌∷◌, ◌++◌, map, refl, ap, ◌∙◌, inl, inr, ◌⊎◌, filter, sum_by, Option, Some, None, arith, eq-eqb}
use Rattle.std.specs.Prelude.{int_le, option_map, is_none, is_some, filter_map}
use Rattle.std.specs.Option.{option_map_or}
use Rattle.std.specs.List.{list_any, AllByRecursion, cons_option}
use Rattle.std.proofs.lemmas.Bool.{cases_Bool, and_parts, or_parts, not-true}
use Rattle.std.proofs.lemmas.Bool.Decides.{nat_tests}
use Rattle.std.proofs.lemmas.Int.{ints}
use Rattle.std.proofs.lemmas.List.Sums.{sum_by-cons, sum_by_push}
use Rattle.dcc_tariff.specs.Prices.{greatest, price, covers, best}
use Rattle.dcc_act.specs.Answers.{answer_key}
use Rattle.dcc_act.specs.ServiceKeys.{same_number, same_service, are_apart}
use Rattle.dcc_act.specs.Services.{ServiceView, service_key}
use Rattle.dcc_act.specs.declared.grant.Grant.{Grant}
use Rattle.dcc_act.specs.declared.outcome.ServiceAnswer.{ServiceAnswer}
use Rattle.dcc_act.specs.declared.service_key.ServiceKey.{ServiceKey}
use Rattle.dcc_model.specs.Money.{grant_price, made_price, asked_units}
use Rattle.dcc_model.specs.Outcomes.{granted_within}
use Rattle.dcc_session.specs.declared.held.Held.{Held}
use Rattle.dcc_session.specs.Grants.{key_of_held, held_price, prices, is_named, is_given_back}
use Rattle.dcc_state.specs.Backed.{held_by}
use Rattle.dcc_state.specs.inner.Grants.{is_unrated_in, room_in, answer_to_in, answers_in}

-- the greatest number passes, or is nothing
greatest_passes : (passes : ℕ → Bool) (n : ℕ) → greatest passes n ≢ 0 → passes (greatest passes n) ≡ true
unfolding greatest
greatest_passes passes zero = λ some. absurd (some refl)
greatest_passes passes (suc n) =
    elim (cases_Bool (passes (suc n))) [ inl t ↦ rw t (λ some. t) | inr f ↦ rw f (greatest_passes passes n) ]

within_covered : (service : ServiceView) (asked : Option Grant) (space : ℤ) → covers space (made_price (granted_within service space asked)) ≡ true
unfolding best
within_covered service None space = refl
within_covered service (Some asked) space =
    elim (cases_Bool (best asked.tariff asked.units space == 0)) [
      | inl t ↦ rw t refl
      | inr f ↦ rw f (greatest_passes (λ units. covers space (price asked.tariff units)) asked.units (λ e. grind (arith, nat_tests)))
    ]

answer_covered : (own : List Held) (service : ServiceView) (space : ℤ) → covers space (made_price (answer_to_in own service space)) ≡ true
answer_covered own service space =
    elim (cases_Bool (is_unrated_in own service)) [
      | inl t ↦ rw t refl
      | inr f ↦ elim (cases_Bool (is_none service.asked)) [ inl t ↦ rw (f, t) refl | inr g ↦ rw (f, g) (within_covered service (asked_units service) space) ]
    ]

pub covers_parts : (money : ℤ) (cost : ℕ) → covers money cost ≡ true → (cost ≡ 0) ⊎ (pos cost ≤ℤ money)
covers_parts money cost h =
    elim (cases_Bool (cost == 0)) [
      | inl t ↦ inl (grind (arith, nat_tests))
      | inr f ↦ let le : int_le (pos cost) money ≡ true = rw f at h in inr (grind (arith, ints))
    ]

-- the answers together cost nothing, or what the first had room for covers them with those before
pub all_covered : (free : ℤ) (own : List Held) (services : List ServiceView) (before : List ServiceAnswer) (rest : List ServiceView)
    → (sum_by made_price (answers_in free own services before rest) ≡ 0)
    ⊎ (pos (sum_by made_price before + sum_by made_price (answers_in free own services before rest)) ≤ℤ room_in free own services [])
all_covered free own services before [] = inl refl
all_covered free own services before (service ∷ rest) =
    let answer = answer_to_in own service (room_in free own services before) in
    let later = answers_in free own services (before ++ answer ∷ []) rest in
    let more = sum_by-cons made_price answer later in
    let push = sum_by_push made_price before answer in
    elim (covers_parts (room_in free own services before) (made_price answer) (answer_covered own service (room_in free own services before))) [
      | inl nothing ↦ elim (all_covered free own services (before ++ answer ∷ []) rest) [
        | inl none ↦ inl (omega arith)
        | inr enough ↦ inr (omega (arith, ints))
      ]
      | inr fits ↦ elim (all_covered free own services (before ++ answer ∷ []) rest) [
        | inl none ↦ inr (omega (arith, ints))
        | inr enough ↦ inr (omega (arith, ints))
      ]
    ]

-- what grants cost is what the answers that made them cost
prices_with : (answer : ServiceAnswer) (grant : Option Grant) (rest : List Held)
    → prices (cons_option (option_map (λ grant. record { key = answer_key answer; grant = grant }) grant) rest) ≡ option_map_or grant_price grant 0 + prices rest
prices_with answer None rest = omega arith
prices_with answer (Some grant) rest = sum_by-cons held_price (record { key = answer_key answer; grant = grant }) rest

pub prices_made : (answers : List ServiceAnswer) → prices (filter_map held_by answers) ≡ sum_by made_price answers
prices_made [] = refl
prices_made (answer ∷ answers) =
    let rest = prices_made answers in
    let first = prices_with answer answer.grant (filter_map held_by answers) in
    let more = sum_by-cons made_price answer answers in
    omega arith

-- an answer has the key of its service
key_within : (service : ServiceView) (asked : Option Grant) (space : ℤ) → answer_key (granted_within service space asked) ≡ service_key service
key_within service None space = refl
key_within service (Some asked) space = elim (cases_Bool (best asked.tariff asked.units space == 0)) [ inl t ↦ rw t refl | inr f ↦ rw f refl ]

key_is : (own : List Held) (service : ServiceView) (space : ℤ) → answer_key (answer_to_in own service space) ≡ service_key service
key_is own service space =
    elim (cases_Bool (is_unrated_in own service)) [
      | inl t ↦ rw t refl
      | inr f ↦ elim (cases_Bool (is_none service.asked)) [ inl t ↦ rw (f, t) refl | inr g ↦ rw (f, g) (key_within service (asked_units service) space) ]
    ]

keys_are : (free : ℤ) (own : List Held) (services : List ServiceView) (before : List ServiceAnswer) (rest : List ServiceView)
    → map answer_key (answers_in free own services before rest) ≡ map service_key rest
keys_are free own services before [] = refl
keys_are free own services before (service ∷ rest) =
    let space = room_in free own services before in
    let answer = answer_to_in own service space in
    ap (λ (key : ServiceKey). key ∷ map answer_key (answers_in free own services (before ++ answer ∷ []) rest)) (key_is own service space)
    ∙ ap (λ (keys : List ServiceKey). service_key service ∷ keys) (keys_are free own services (before ++ answer ∷ []) rest)

apart_parts : (key : ServiceKey) (keys : List ServiceKey) → are_apart (key ∷ keys) ≡ true → (list_any (same_service key) keys ≡ false) × (are_apart keys ≡ true)
apart_parts key keys h =
    let parts = and_parts (not (list_any (same_service key) keys)) (are_apart keys) h in
    (not-true (list_any (same_service key) keys) parts.0, parts.1)

-- what is apart from answers is apart from the grants that they made
apart_one : (key : ServiceKey) (answer : ServiceAnswer) (grant : Option Grant) (rest : List Held) → same_service key (answer_key answer) ≡ false
    → list_any (same_service key) (map key_of_held rest) ≡ false
    → list_any (same_service key) (map key_of_held (cons_option (option_map (λ grant. record { key = answer_key answer; grant = grant }) grant) rest)) ≡ false
apart_one key answer None rest other more = more
apart_one key answer (Some grant) rest other more = rw (other, more) refl

apart_from : (key : ServiceKey) (answers : List ServiceAnswer) → list_any (same_service key) (map answer_key answers) ≡ false
    → list_any (same_service key) (map key_of_held (filter_map held_by answers)) ≡ false
apart_from key [] h = refl
apart_from key (answer ∷ answers) h =
    let parts = or_parts (same_service key (answer_key answer)) (list_any (same_service key) (map answer_key answers)) h in
    apart_one key answer answer.grant (filter_map held_by answers) parts.0 (apart_from key answers parts.1)

apart_with : (answer : ServiceAnswer) (grant : Option Grant) (rest : List Held) → list_any (same_service (answer_key answer)) (map key_of_held rest) ≡ false
    → are_apart (map key_of_held rest) ≡ true
    → are_apart (map key_of_held (cons_option (option_map (λ grant. record { key = answer_key answer; grant = grant }) grant) rest)) ≡ true
apart_with answer None rest other more = more
apart_with answer (Some grant) rest other more = rw (other, more) refl

made_apart : (answers : List ServiceAnswer) → are_apart (map answer_key answers) ≡ true → are_apart (map key_of_held (filter_map held_by answers)) ≡ true
made_apart [] h = refl
made_apart (answer ∷ answers) h =
    let parts = apart_parts (answer_key answer) (map answer_key answers) h in
    apart_with answer answer.grant (filter_map held_by answers) (apart_from (answer_key answer) answers parts.0) (made_apart answers parts.1)

-- the grants of a request are of services of their own
pub grants_apart : (free : ℤ) (own : List Held) (services : List ServiceView) → are_apart (map service_key services) ≡ true
    → are_apart (map key_of_held (filter_map held_by (answers_in free own services [] services))) ≡ true
grants_apart free own services h =
    made_apart (answers_in free own services [] services) (ap are_apart (keys_are free own services [] services) ∙ h)

own_number : (a : Option ℕ) → same_number a a ≡ true
own_number None = refl
own_number (Some n) = eq-eqb n n refl

own_service : (key : ServiceKey) → same_service key key ≡ true
own_service key = rw (own_number key.group, own_number key.id) refl

asked_some : {X : Type 0} (asked : Option X) → is_none asked ≡ false → is_some asked ≡ true
asked_some None h = absurd cc
asked_some (Some x) h = refl

-- only a service that asks is granted
granted_is_named : (own : List Held) (service : ServiceView) (space : ℤ) → ((answer_to_in own service space).grant ≡ None) ⊎ (is_named service ≡ true)
granted_is_named own service space =
    elim (cases_Bool (is_unrated_in own service)) [
      | inl t ↦ inl (rw t refl)
      | inr f ↦ elim (cases_Bool (is_none service.asked)) [
        | inl t ↦ inl (rw (f, t) refl)
        | inr g ↦ inr (rw (asked_some service.asked g) refl)
      ]
    ]

wider : (service : ServiceView) (services : List ServiceView) (held : Held) → is_given_back services held ≡ true → is_given_back (service ∷ services) held ≡ true
wider service services held h =
    elim (cases_Bool (is_named service)) [
      | inl t ↦ elim (cases_Bool (same_service held.key (service_key service))) [ inl s ↦ rw (t, s) refl | inr f ↦ rw (t, f) h ]
      | inr f ↦ rw f h
    ]

all_wider : (service : ServiceView) (services : List ServiceView) (made : List Held) → AllByRecursion (λ (held : Held). is_given_back services held ≡ true) made
    → AllByRecursion (λ (held : Held). is_given_back (service ∷ services) held ≡ true) made
all_wider service services [] all = tt
all_wider service services (held ∷ made) all = (wider service services held all.0, all_wider service services made all.1)

named_with : (services : List ServiceView) (answer : ServiceAnswer) (grant : Option Grant) (rest : List Held)
    → ((grant ≡ None) ⊎ (list_any (same_service (answer_key answer)) (map service_key (filter is_named services)) ≡ true))
    → AllByRecursion (λ (held : Held). is_given_back services held ≡ true) rest
    → AllByRecursion (λ (held : Held). is_given_back services held ≡ true) (cons_option (option_map (λ grant. record { key = answer_key answer; grant = grant }) grant) rest)
named_with services answer None rest one all = all
named_with services answer (Some grant) rest one all = elim one [ inl none ↦ absurd cc | inr named ↦ (named, all) ]

named_first : (own : List Held) (service : ServiceView) (rest : List ServiceView) (space : ℤ)
    → ((answer_to_in own service space).grant ≡ None)
    ⊎ (list_any (same_service (answer_key (answer_to_in own service space))) (map service_key (filter is_named (service ∷ rest))) ≡ true)
named_first own service rest space =
    elim (granted_is_named own service space) [
      | inl none ↦ inl none
      | inr named ↦ inr (rw (key_is own service space) (rw (named, own_service (service_key service)) refl))
    ]

-- the grants of a request are made to services that it names
pub grants_named : (free : ℤ) (own : List Held) (services : List ServiceView) (before : List ServiceAnswer) (rest : List ServiceView)
    → AllByRecursion (λ (held : Held). is_given_back rest held ≡ true) (filter_map held_by (answers_in free own services before rest))
grants_named free own services before [] = tt
grants_named free own services before (service ∷ rest) =
    let space = room_in free own services before in
    let answer = answer_to_in own service space in
    let later = filter_map held_by (answers_in free own services (before ++ answer ∷ []) rest) in
    named_with (service ∷ rest) answer answer.grant later (named_first own service rest space)
    (all_wider service rest later (grants_named free own services (before ++ answer ∷ []) rest))
