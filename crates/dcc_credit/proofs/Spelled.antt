-- Each AVP of an answer has a spelling.
use Rattle.std.proofs.Common.{◌≡◌, ℕ, ◌+◌, ◌-◌, ◌*◌, ◌%◌, ◌^◌, ◌<◌, ◌≤◌, List, [], ◌∷◌, ◌++◌, length, map, Option, Some, None, Bool, true, false, if◌then◌else◌, refl, ap, ◌∙◌, arith, lit<}
use Rattle.std.specs.Prelude.{option_map}
use Rattle.std.specs.Int.{w32, w64, to_be_bytes, cast_unsigned}
use Rattle.std.specs.List.{flat_map, sum_by, AllByRecursion}
use Rattle.std.specs.Option.{option_to_list}
use Rattle.std.proofs.lemmas.List.{length-append}
use Rattle.std.proofs.lemmas.List.Concat.{flat_map-append}
use Rattle.std.proofs.lemmas.List.Sums.{sum_by-cons}
use Rattle.std.proofs.lemmas.Bool.Decides.{nat_tests}
use Rattle.dcc_avp.specs.Spelling.{AvpView, padded_len, padded, HasSpelling}
use Rattle.dcc_avp.specs.declared.codes.TheConstants.{SESSION_ID, RESULT_CODE, ORIGIN_HOST, ORIGIN_REALM, AUTH_APPLICATION_ID, CC_REQUEST_TYPE, CC_REQUEST_NUMBER, GRANTED_SERVICE_UNIT, CC_TOTAL_OCTETS, CC_TIME, CC_SERVICE_SPECIFIC_UNITS, MULTIPLE_SERVICES_CREDIT_CONTROL, SERVICE_IDENTIFIER, RATING_GROUP, COST_INFORMATION, UNIT_VALUE, VALUE_DIGITS, EXPONENT, CURRENCY_CODE, CHECK_BALANCE_RESULT, VALIDITY_TIME, FINAL_UNIT_INDICATION, FINAL_UNIT_ACTION}
use Rattle.dcc_octets.specs.Names.{is_name, is_short}
use Rattle.dcc_message.specs.declared.applications.TheConstants.{CREDIT_CONTROL}
use Rattle.dcc_credit.specs.declared.answer.TheConstants.{USER_UNKNOWN}
use Rattle.dcc_credit.specs.declared.use_of_grants.TheConstants.{TERMINATE}
use Rattle.dcc_credit.specs.inner.Limits.{IsAnswerable}
use Rattle.dcc_message.specs.declared.identity.Identity.{Identity}
use Rattle.dcc_tariff.specs.Terms.{TermsView}
use Rattle.dcc_tariff.specs.declared.tariff.UnitKind.{UnitKind}
use Rattle.dcc_tariff.specs.declared.tariff.UnitKind.TheVariants.{Octets, Time, Units}
use Rattle.dcc_act.specs.declared.limits.TheConstants.{MAX_IDS}
use Rattle.dcc_act.specs.declared.grant.Grant.{Grant}
use Rattle.dcc_act.specs.declared.outcome.Answer.{Answer}
use Rattle.dcc_act.specs.declared.outcome.Balance.{Balance}
use Rattle.dcc_act.specs.declared.outcome.Outcome.{Outcome}
use Rattle.dcc_act.specs.declared.outcome.Outcome.TheVariants.{Unknown, Answered, Added, Ceiling, Expired}
use Rattle.dcc_act.specs.declared.outcome.RequestType.{RequestType}
use Rattle.dcc_act.specs.declared.outcome.ServiceAnswer.{ServiceAnswer}
use Rattle.dcc_act.specs.declared.request_key.RequestKey.{RequestKey}
use Rattle.dcc_act.specs.declared.service.Form.{Form}
use Rattle.dcc_act.specs.declared.service.Form.TheVariants.{Single, Multi}
use Rattle.dcc_act.specs.Numbers.{request_type_number, result_number, balance_number}
use Rattle.dcc_answer.specs.Avps.{sent, sent32, sent64}
use Rattle.dcc_answer.specs.Answers.{IsServer}
use Rattle.dcc_credit.specs.Answers.{amount_avp, granted, in_session, validity_avps, final_avps, service_parts, service_avps, single_validity, single_final, unit_value, cost_avp, balance_avp, told_avps, head_avps, answer_avps, HasLimits}
use Rattle.dcc_credit.proofs.ServiceSizes.{ids_of}

abbrev pub AllSpelled : List AvpView → Type 0
AllSpelled avps = AllByRecursion HasSpelling avps

-- ---- lengths

-- an AVP with its padding takes whole words, as the law of what is written says
abbrev pub AreSizes : Type 0
AreSizes = (avp : AvpView) → HasSpelling avp → length (padded avp) ≡ padded_len avp

rounded_few : (n : ℕ) → n + (4 - n % 4) % 4 ≤ n + 3
rounded_few n = omega arith

-- ---- AVPs that are sent

pub sent_spelled : (code : ℕ) (value : List ℕ) → code < 2 ^ 32 → 8 + length value < 2 ^ 24 → HasSpelling (sent code value)
sent_spelled code value small few =
    record { is_avp = record { code = small; flags = lit< tt; vendor = tt; flagged = refl }; length = few }

pub sent32_spelled : (code n : ℕ) → code < 2 ^ 32 → HasSpelling (sent32 code n)
sent32_spelled code n small = sent_spelled code (to_be_bytes w32 n) small (lit< tt)

sent64_spelled : (code n : ℕ) → code < 2 ^ 32 → HasSpelling (sent64 code n)
sent64_spelled code n small = sent_spelled code (to_be_bytes w64 n) small (lit< tt)

sent_few : AreSizes → (code : ℕ) (value : List ℕ) → HasSpelling (sent code value) → length (padded (sent code value)) ≤ 11 + length value
sent_few sizes code value h =
    let size = sizes (sent code value) h in
    let few = rounded_few (8 + length value) in
    omega arith

pub append_spelled : (xs ys : List AvpView) → AllSpelled xs → AllSpelled ys → AllSpelled (xs ++ ys)
append_spelled [] ys a b = b
append_spelled (x ∷ xs) ys a b = (a.0, append_spelled xs ys a.1 b)

-- AVPs that have a spelling, and octets of at most so many
record Takes (avps : List AvpView) (most : ℕ) : Type 0 where
  spelled : AllSpelled avps
  few : length (flat_map padded avps) ≤ most

one_takes : (avp : AvpView) (most : ℕ) → HasSpelling avp → length (padded avp) ≤ most → Takes (avp ∷ []) most
one_takes avp most h few =
    let parts : length (padded avp ++ []) ≡ length (padded avp) + 0 = length-append (padded avp) [] in
    record { spelled = (h, tt); few = omega arith }

both_take : (xs ys : List AvpView) (m n : ℕ) → Takes xs m → Takes ys n → Takes (xs ++ ys) (m + n)
both_take xs ys m n a b =
    let first = a.few in
    let second = b.few in
    let parts : length (flat_map padded (xs ++ ys)) ≡ length (flat_map padded xs) + length (flat_map padded ys) =
    ap length (flat_map-append padded xs ys) ∙ length-append (flat_map padded xs) (flat_map padded ys) in
    record { spelled = append_spelled xs ys a.spelled b.spelled; few = omega arith }

none_take : (most : ℕ) → Takes [] most
none_take most = record { spelled = tt; few = omega arith }

sent32_takes : AreSizes → (code n : ℕ) → code < 2 ^ 32 → Takes (sent32 code n ∷ []) 15
sent32_takes sizes code n small =
    let h = sent32_spelled code n small in
    one_takes (sent32 code n) 15 h (sent_few sizes code (to_be_bytes w32 n) h)

sent64_takes : AreSizes → (code n : ℕ) → code < 2 ^ 32 → Takes (sent64 code n ∷ []) 19
sent64_takes sizes code n small =
    let h = sent64_spelled code n small in
    one_takes (sent64 code n) 19 h (sent_few sizes code (to_be_bytes w64 n) h)

-- ---- services

amount_takes : AreSizes → (unit : UnitKind) (units : ℕ) → Takes (amount_avp unit units ∷ []) 19
amount_takes sizes Octets units = sent64_takes sizes CC_TOTAL_OCTETS units (lit< tt)
amount_takes sizes Time units =
    let h = sent32_takes sizes CC_TIME units (lit< tt) in
    let few = h.few in
    record { spelled = h.spelled; few = omega arith }
amount_takes sizes Units units = sent64_takes sizes CC_SERVICE_SPECIFIC_UNITS units (lit< tt)

grant_takes : AreSizes → (grant : Option Grant) → Takes (option_to_list (option_map granted grant)) 30
grant_takes sizes None = none_take 30
grant_takes sizes (Some grant) =
    let amount = amount_takes sizes grant.unit grant.units in
    let few = amount.few in
    let octets = flat_map padded (amount_avp grant.unit grant.units ∷ []) in
    let h : HasSpelling (sent GRANTED_SERVICE_UNIT octets) = sent_spelled GRANTED_SERVICE_UNIT octets (lit< tt) (omega arith) in
    let size = sent_few sizes GRANTED_SERVICE_UNIT octets h in
    one_takes (granted grant) 30 h (omega arith)

ids_take : AreSizes → (ids : List ℕ) → Takes (map (sent32 SERVICE_IDENTIFIER) ids) (15 * length ids)
ids_take sizes [] = none_take 0
ids_take sizes (id ∷ ids) =
    let first = sent32_takes sizes SERVICE_IDENTIFIER id (lit< tt) in
    let all = both_take (sent32 SERVICE_IDENTIFIER id ∷ []) (map (sent32 SERVICE_IDENTIFIER) ids) 15 (15 * length ids) first (ids_take sizes ids) in
    let few = all.few in
    record { spelled = all.spelled; few = omega arith }

group_takes : AreSizes → (group : Option ℕ) → Takes (option_to_list (option_map (sent32 RATING_GROUP) group)) 15
group_takes sizes None = none_take 15
group_takes sizes (Some group) = sent32_takes sizes RATING_GROUP group (lit< tt)

validity_if : AreSizes → (stands : Bool) (validity : ℕ) → Takes (if stands then sent32 VALIDITY_TIME validity ∷ [] else []) 15
validity_if sizes true validity = sent32_takes sizes VALIDITY_TIME validity (lit< tt)
validity_if sizes false validity = none_take 15

validity_takes : AreSizes → (type : RequestType) (terms : TermsView) (grant : Option Grant) → Takes (validity_avps type terms grant) 15
validity_takes sizes type terms None = none_take 15
validity_takes sizes type terms (Some grant) = validity_if sizes (in_session type) terms.validity

final_takes : AreSizes → (is_final : Bool) → Takes (final_avps is_final) 26
final_takes sizes false = none_take 26
final_takes sizes true =
    let action = sent32_takes sizes FINAL_UNIT_ACTION TERMINATE (lit< tt) in
    let few = action.few in
    let octets = flat_map padded (sent32 FINAL_UNIT_ACTION TERMINATE ∷ []) in
    let h : HasSpelling (sent FINAL_UNIT_INDICATION octets) = sent_spelled FINAL_UNIT_INDICATION octets (lit< tt) (omega arith) in
    let size = sent_few sizes FINAL_UNIT_INDICATION octets h in
    one_takes (sent FINAL_UNIT_INDICATION octets) 26 h (omega arith)

parts_take : AreSizes → (type : RequestType) (terms : TermsView) (service : ServiceAnswer) →
    Takes (service_parts type terms service) (30 + 15 * length service.ids + 15 + 15 + (15 + 26))
parts_take sizes type terms service =
    let grant = option_to_list (option_map granted service.grant) in
    let ids = map (sent32 SERVICE_IDENTIFIER) service.ids in
    let group = option_to_list (option_map (sent32 RATING_GROUP) service.group) in
    let validity = validity_avps type terms service.grant in
    let code = result_number service.result in
    both_take (grant ++ ids ++ group ++ validity) (sent32 RESULT_CODE code ∷ final_avps service.is_final) (30 + 15 * length service.ids + 15 + 15) (15 + 26)
    (both_take (grant ++ ids ++ group) validity (30 + 15 * length service.ids + 15) 15
    (both_take (grant ++ ids) group (30 + 15 * length service.ids) 15
    (both_take grant ids 30 (15 * length service.ids) (grant_takes sizes service.grant) (ids_take sizes service.ids)) (group_takes sizes service.group))
    (validity_takes sizes type terms service.grant))
    (both_take (sent32 RESULT_CODE code ∷ []) (final_avps service.is_final) 15 26 (sent32_takes sizes RESULT_CODE code (lit< tt)) (final_takes sizes service.is_final))

service_spelled : AreSizes → (type : RequestType) (terms : TermsView) (form : Form) (service : ServiceAnswer) → length service.ids ≤ MAX_IDS →
    AllSpelled (service_avps type terms form service)
service_spelled sizes type terms Single service few = (grant_takes sizes service.grant).spelled
service_spelled sizes type terms Multi service few =
    let parts = parts_take sizes type terms service in
    let size = parts.few in
    (sent_spelled MULTIPLE_SERVICES_CREDIT_CONTROL (flat_map padded (service_parts type terms service)) (lit< tt) (omega arith), tt)

services_spelled : AreSizes → (type : RequestType) (terms : TermsView) (services : List ServiceAnswer) → sum_by ids_of services ≤ MAX_IDS →
    AllSpelled (flat_map (λ service. service_avps type terms service.form service) services)
services_spelled sizes type terms [] few = tt
services_spelled sizes type terms (service ∷ services) few =
    let all = sum_by-cons ids_of service services in
    let here : length service.ids ≤ MAX_IDS = omega arith in
    append_spelled (service_avps type terms service.form service) (flat_map (λ service. service_avps type terms service.form service) services)
    (service_spelled sizes type terms service.form service here) (services_spelled sizes type terms services (omega arith))

-- where each has a spelling, all have
each_spelled : (f : ServiceAnswer → List AvpView) → ((service : ServiceAnswer) → AllSpelled (f service)) → (services : List ServiceAnswer) →
    AllSpelled (flat_map f services)
each_spelled f one [] = tt
each_spelled f one (service ∷ services) = append_spelled (f service) (flat_map f services) (one service) (each_spelled f one services)

single_validity_spelled : AreSizes → (type : RequestType) (terms : TermsView) (form : Form) (service : ServiceAnswer) →
    AllSpelled (single_validity type terms form service)
single_validity_spelled sizes type terms Single service = (validity_takes sizes type terms service.grant).spelled
single_validity_spelled sizes type terms Multi service = tt

single_final_spelled : AreSizes → (form : Form) (service : ServiceAnswer) → AllSpelled (single_final form service)
single_final_spelled sizes Single service = (final_takes sizes service.is_final).spelled
single_final_spelled sizes Multi service = tt

-- ---- prices and balances

unit_value_takes : AreSizes → (terms : TermsView) (cost : ℕ) → Takes (unit_value terms cost ∷ []) 45
unit_value_takes sizes terms cost =
    let parts =
    both_take (sent64 VALUE_DIGITS cost ∷ []) (sent32 EXPONENT (cast_unsigned w32 terms.exponent) ∷ []) 19 15
    (sent64_takes sizes VALUE_DIGITS cost (lit< tt)) (sent32_takes sizes EXPONENT (cast_unsigned w32 terms.exponent) (lit< tt)) in
    let few = parts.few in
    let octets = flat_map padded (sent64 VALUE_DIGITS cost ∷ sent32 EXPONENT (cast_unsigned w32 terms.exponent) ∷ []) in
    let h : HasSpelling (sent UNIT_VALUE octets) = sent_spelled UNIT_VALUE octets (lit< tt) (omega arith) in
    let size = sent_few sizes UNIT_VALUE octets h in
    one_takes (unit_value terms cost) 45 h (omega arith)

cost_spelled : AreSizes → (terms : TermsView) (cost : Option ℕ) → AllSpelled (option_to_list (option_map (cost_avp terms) cost))
cost_spelled sizes terms None = tt
cost_spelled sizes terms (Some cost) =
    let parts =
    both_take (unit_value terms cost ∷ []) (sent32 CURRENCY_CODE terms.currency ∷ []) 45 15 (unit_value_takes sizes terms cost)
    (sent32_takes sizes CURRENCY_CODE terms.currency (lit< tt)) in
    let few = parts.few in
    (sent_spelled COST_INFORMATION (flat_map padded (unit_value terms cost ∷ sent32 CURRENCY_CODE terms.currency ∷ [])) (lit< tt) (omega arith), tt)

balance_spelled : (balance : Option Balance) → AllSpelled (option_to_list (option_map balance_avp balance))
balance_spelled None = tt
balance_spelled (Some balance) = (sent32_spelled CHECK_BALANCE_RESULT (balance_number balance) (lit< tt), tt)

told_spelled : AreSizes → (terms : TermsView) (answer : Answer) → sum_by ids_of answer.services ≤ MAX_IDS → AllSpelled (told_avps terms answer)
told_spelled sizes terms answer few =
    let services = flat_map (λ service. service_avps answer.request terms service.form service) answer.services in
    let cost = option_to_list (option_map (cost_avp terms) answer.cost) in
    let finals = flat_map (λ service. single_final service.form service) answer.services in
    let balance = option_to_list (option_map balance_avp answer.balance) in
    let validities = flat_map (λ service. single_validity answer.request terms service.form service) answer.services in
    append_spelled (services ++ cost ++ finals ++ balance) validities
    (append_spelled (services ++ cost ++ finals) balance
    (append_spelled (services ++ cost) finals
    (append_spelled services cost (services_spelled sizes answer.request terms answer.services few) (cost_spelled sizes terms answer.cost))
    (each_spelled (λ service. single_final service.form service) (λ service. single_final_spelled sizes service.form service) answer.services))
    (balance_spelled answer.balance))
    (each_spelled (λ service. single_validity answer.request terms service.form service)
    (λ service. single_validity_spelled sizes answer.request terms service.form service) answer.services)

-- ---- answers

pub few_octets : (octets : List ℕ) → is_short octets ≡ true → length octets ≤ 255
few_octets octets h = grind (arith, nat_tests)

pub few_of : (name : List ℕ) → is_name name ≡ true → length name ≤ 255
few_of name h = grind (arith, nat_tests)

head_spelled : (identity : Identity) (type : RequestType) (key : RequestKey) (code : ℕ) → IsServer identity → length key.sid ≤ 255 → AllSpelled (head_avps identity type key code)
head_spelled identity type key code server few =
    let host = few_of identity.host server.host in
    let realm = few_of identity.realm server.realm in (
      sent_spelled SESSION_ID key.sid (lit< tt) (omega arith),
      (
        sent32_spelled RESULT_CODE code (lit< tt),
        (
          sent_spelled ORIGIN_HOST identity.host (lit< tt) (omega arith),
          (
            sent_spelled ORIGIN_REALM identity.realm (lit< tt) (omega arith),
            (
              sent32_spelled AUTH_APPLICATION_ID CREDIT_CONTROL (lit< tt),
              (sent32_spelled CC_REQUEST_TYPE (request_type_number type) (lit< tt), (sent32_spelled CC_REQUEST_NUMBER key.number (lit< tt), tt)),
            ),
          ),
        ),
      ),
    )

pub answer_spelled : AreSizes → (identity : Identity) (terms : TermsView) (outcome : Outcome) → IsAnswerable identity outcome → AllSpelled (answer_avps identity terms outcome)
unfolding answer_avps
answer_spelled sizes identity terms (Unknown type key) limits = head_spelled identity type key USER_UNKNOWN limits.0 (few_octets _ limits.1)
answer_spelled sizes identity terms (Answered answer) limits =
    append_spelled (head_avps identity answer.request answer.key (result_number answer.result)) (told_avps terms answer)
    (head_spelled identity answer.request answer.key (result_number answer.result) limits.0 (few_octets _ limits.1))
    (told_spelled sizes terms answer limits.2.few_ids)
answer_spelled sizes identity terms Added limits = tt
answer_spelled sizes identity terms Ceiling limits = tt
answer_spelled sizes identity terms (Expired sessions) limits = tt

pub answerable : (identity : Identity) (outcome : Outcome) → IsServer identity → HasLimits outcome → IsAnswerable identity outcome
answerable identity (Unknown type key) server limits = (server, limits)
answerable identity (Answered answer) server limits = (server, limits.0, limits.1)
answerable identity Added server limits = tt
answerable identity Ceiling server limits = tt
answerable identity (Expired sessions) server limits = tt
