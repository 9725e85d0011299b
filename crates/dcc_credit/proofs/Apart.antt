-- The services of an act keep the limits of those of its request.
use Rattle.std.proofs.Common.{◌≡◌, ℕ, ◌+◌, ◌≤◌, Bool, true, false, nat_le, if◌then◌else◌, List, [], ◌∷◌, ◌++◌, map, length, Option, Some, None, refl, ◌∙◌, append_assoc, arith}
use Rattle.std.specs.Prelude.{option_map, is_none, slice_get}
use Rattle.std.specs.List.{list_any, sum_by}
use Rattle.std.proofs.lemmas.Bool.{and_parts}
use Rattle.std.proofs.lemmas.Bool.Decides.{nat_tests}
use Rattle.std.proofs.lemmas.List.{length-map}
use Rattle.std.proofs.lemmas.List.Sums.{sum_by-cons}
use Rattle.std.proofs.lemmas.List.Folds.{list_all-map}
use Rattle.dcc_tariff.specs.Plans.{PlanView}
use Rattle.dcc_act.specs.declared.limits.TheConstants.{MAX_SERVICES, MAX_IDS}
use Rattle.dcc_act.specs.ServiceKeys as keys
use Rattle.dcc_act.specs.Services.{ServiceView, service_key, is_multi, are_services}
use Rattle.dcc_request.specs.Refusals.{or_else}
use Rattle.dcc_ccr.specs.Contradictions.{same_number, same_key, place_of, repeated}
use Rattle.dcc_ccr.specs.Requests as requests
use Rattle.dcc_ccr.specs.Services as sent
use Rattle.dcc_ccr.specs.declared.request_type.RequestType.{RequestType}
use Rattle.dcc_credit.specs.Acts.{service_of}

-- ---- no two of one key, one after another

if_none : (b : Bool) (i : ℕ) (rest : Option ℕ) → (if b then Some i else rest) ≡ None → (b ≡ false) × (rest ≡ None)
if_none true i rest e = absurd cc
if_none false i rest e = (refl, e)

not_same : (x service : sent.ServiceView) (front back : List sent.ServiceView) (from : ℕ) → place_of service (front ++ x ∷ back) from ≡ None →
    same_key x service ≡ false
not_same x service [] back from e = (if_none (same_key x service) from (place_of service back (from + 1)) e).0
not_same x service (other ∷ front) back from e =
    not_same x service front back (from + 1) (if_none (same_key other service) from (place_of service (front ++ x ∷ back) (from + 1)) e).1

pair_none : (place : Option ℕ) (n : ℕ) (rest : Option (ℕ × ℕ)) → or_else (option_map (λ first. (first, n)) place) rest ≡ None →
    (place ≡ None) × (rest ≡ None)
pair_none None n rest e = (refl, e)
pair_none (Some i) n rest e = absurd cc

-- one that stands before has another key than each behind
none_same : (x : sent.ServiceView) (front back after : List sent.ServiceView) → repeated (front ++ x ∷ back) after ≡ None →
    list_any (same_key x) after ≡ false
none_same x front back [] e = refl
none_same x front back (service ∷ after) e =
    let before = front ++ x ∷ back in
    let both = pair_none (place_of service before 0) (length before) (repeated (before ++ service ∷ []) after) e in
    let here = not_same x service front back 0 both.0 in
    let longer : before ++ service ∷ [] ≡ front ++ x ∷ (back ++ service ∷ []) = append_assoc front (x ∷ back) (service ∷ []) in
    let later = none_same x front (back ++ service ∷ []) after (rw longer at both.1) in
    rw here later

-- ---- the same of an act's services

same_numbers : (a b : Option ℕ) → keys.same_number a b ≡ same_number a b
same_numbers None None = refl
same_numbers (Some a) (Some b) = refl
same_numbers None (Some b) = refl
same_numbers (Some a) None = refl

first_ids : (ids : List ℕ) → keys.first_id ids ≡ slice_get ids 0
first_ids [] = refl
first_ids (id ∷ ids) = refl

same_services : (a b : sent.ServiceView) → keys.same_service (keys.key_of a.group a.ids) (keys.key_of b.group b.ids) ≡ same_key a b
same_services a b =
    let groups = same_numbers a.group b.group in
    let ids = same_numbers (keys.first_id a.ids) (keys.first_id b.ids) in
    rw (groups, ids, first_ids a.ids, first_ids b.ids) refl

any_same : (plan : PlanView) (moment : ℕ) (type : RequestType) (x : sent.ServiceView) (services : List sent.ServiceView) →
    list_any (keys.same_service (keys.key_of x.group x.ids)) (map service_key (map (service_of plan moment type) services)) ≡ list_any (same_key x) services
any_same plan moment type x [] = refl
any_same plan moment type x (service ∷ services) =
    let here = same_services x service in
    let rest = any_same plan moment type x services in
    rw (here, rest) refl

apart : (plan : PlanView) (moment : ℕ) (type : RequestType) (before after : List sent.ServiceView) → repeated before after ≡ None →
    keys.are_apart (map service_key (map (service_of plan moment type) after)) ≡ true
apart plan moment type before [] e = refl
apart plan moment type before (service ∷ after) e =
    let both = pair_none (place_of service before 0) (length before) (repeated (before ++ service ∷ []) after) e in
    let others = none_same service before [] after both.1 in
    let none = any_same plan moment type service after ∙ others in
    let rest = apart plan moment type (before ++ service ∷ []) after both.1 in
    rw (none, rest) refl

-- ---- how many they are, and how they stand

ids_kept : (plan : PlanView) (moment : ℕ) (type : RequestType) (services : List sent.ServiceView) →
    sum_by (λ (service : ServiceView). length service.ids) (map (service_of plan moment type) services) ≡ requests.count_ids services
ids_kept plan moment type [] = refl
ids_kept plan moment type (service ∷ services) =
    let here = sum_by-cons (λ (service : ServiceView). length service.ids) (service_of plan moment type service) (map (service_of plan moment type) services) in
    let sent = sum_by-cons (λ (service : sent.ServiceView). length service.ids) service services in
    let rest = ids_kept plan moment type services in
    omega arith

none_of : {A : Type 0} (o : Option A) → is_none o ≡ true → o ≡ None
none_of None e = refl
none_of (Some x) e = absurd cc

pub limits_kept : (plan : PlanView) (moment : ℕ) (type : RequestType) (services : List sent.ServiceView) → requests.are_services services ≡ true →
    requests.count_ids services ≤ MAX_IDS → requests.stand_right services ≡ true → are_services (map (service_of plan moment type) services) ≡ true
limits_kept plan moment type services limits few_ids alone =
    let made = map (service_of plan moment type) services in
    let both = and_parts (nat_le (length services) MAX_SERVICES) (is_none (repeated [] services)) limits in
    let same : length made ≡ length services = length-map services (service_of plan moment type) in
    let few : nat_le (length made) MAX_SERVICES ≡ true = rw same both.0 in
    let ids : nat_le (sum_by (λ (service : ServiceView). length service.ids) made) MAX_IDS ≡ true = rw (ids_kept plan moment type services) (grind (arith, nat_tests)) in
    let keys = apart plan moment type [] services (none_of (repeated [] services) both.1) in
    let forms = list_all-map (λ (service : ServiceView). is_multi service.form) (service_of plan moment type) services in
    rw (few, ids, keys, same, forms) alone
