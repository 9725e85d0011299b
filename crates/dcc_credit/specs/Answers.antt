-- The octets of answers to credit-control requests (RFC 8506, section 3.2).
use Rattle.std.specs.Prelude.{◌≡◌, ℕ, Bool, true, false, if◌then◌else◌, List, [], ◌∷◌, ◌++◌, map, Option, Some, None, option_map}
use Rattle.std.specs.Int.{w32, cast_unsigned}
use Rattle.std.specs.List.{flat_map}
use Rattle.std.specs.Option.{option_to_list}
use Rattle.dcc_octets.specs.Names.{is_short}
use Rattle.dcc_avp.specs.Spelling.{AvpView}
use Rattle.dcc_avp.specs.declared.codes.TheConstants.{SESSION_ID, RESULT_CODE, ORIGIN_HOST, ORIGIN_REALM, AUTH_APPLICATION_ID}
use Rattle.dcc_avp.specs.declared.codes.TheConstants.{CC_REQUEST_TYPE, CC_REQUEST_NUMBER, GRANTED_SERVICE_UNIT, CC_TOTAL_OCTETS, CC_TIME}
use Rattle.dcc_avp.specs.declared.codes.TheConstants.{CC_SERVICE_SPECIFIC_UNITS, MULTIPLE_SERVICES_CREDIT_CONTROL, SERVICE_IDENTIFIER}
use Rattle.dcc_avp.specs.declared.codes.TheConstants.{RATING_GROUP, COST_INFORMATION, UNIT_VALUE, VALUE_DIGITS, EXPONENT, CURRENCY_CODE}
use Rattle.dcc_avp.specs.declared.codes.TheConstants.{CHECK_BALANCE_RESULT, VALIDITY_TIME, FINAL_UNIT_INDICATION, FINAL_UNIT_ACTION}
use Rattle.dcc_message.specs.declared.applications.TheConstants.{CREDIT_CONTROL}
use Rattle.dcc_message.specs.HeaderView.{HeaderView}
use Rattle.dcc_message.specs.declared.identity.Identity.{Identity}
use Rattle.dcc_answer.specs.Avps.{sent, sent32, sent64, grouped}
use Rattle.dcc_answer.specs.Answers.{answer_with}
use Rattle.dcc_tariff.specs.Terms.{TermsView}
use Rattle.dcc_tariff.specs.declared.tariff.UnitKind.{UnitKind}
use Rattle.dcc_tariff.specs.declared.tariff.UnitKind.TheVariants.{Octets, Time, Units}
use Rattle.dcc_act.specs.declared.grant.Grant.{Grant}
use Rattle.dcc_act.specs.declared.outcome.Answer.{Answer}
use Rattle.dcc_act.specs.declared.outcome.Balance.{Balance}
use Rattle.dcc_act.specs.declared.outcome.Outcome.{Outcome}
use Rattle.dcc_act.specs.declared.outcome.Outcome.TheVariants.{Unknown, Answered, Added, Ceiling, Expired}
use Rattle.dcc_act.specs.declared.outcome.RequestType.{RequestType}
use Rattle.dcc_act.specs.declared.outcome.RequestType.TheVariants.{Initial, Update, Termination, Event}
use Rattle.dcc_act.specs.declared.outcome.ServiceAnswer.{ServiceAnswer}
use Rattle.dcc_act.specs.declared.request_key.RequestKey.{RequestKey}
use Rattle.dcc_act.specs.declared.service.Form.{Form}
use Rattle.dcc_act.specs.declared.service.Form.TheVariants.{Single, Multi}
use Rattle.dcc_act.specs.Answers.{AreAnswers}
use Rattle.dcc_act.specs.Numbers.{request_type_number, result_number, balance_number}
use Rattle.dcc_credit.specs.declared.answer.TheConstants.{USER_UNKNOWN}
use Rattle.dcc_credit.specs.declared.use_of_grants.TheConstants.{TERMINATE}

-- an amount in the AVP of its unit (RFC 8506, section 8.17)
abbrev pub amount_avp : UnitKind → ℕ → AvpView
amount_avp Octets units = sent64 CC_TOTAL_OCTETS units
amount_avp Time units = sent32 CC_TIME units
amount_avp Units units = sent64 CC_SERVICE_SPECIFIC_UNITS units

abbrev pub granted : Grant → AvpView
granted grant = grouped GRANTED_SERVICE_UNIT (amount_avp grant.unit grant.units ∷ [])

-- the request belongs to a session
abbrev pub in_session : RequestType → Bool
in_session Initial = true
in_session Update = true
in_session Termination = true
in_session Event = false

-- the seconds for which a grant may be used (section 8.33); the grant of an event is used at once
abbrev pub validity_avps : RequestType → TermsView → Option Grant → List AvpView
validity_avps type terms None = []
validity_avps type terms (Some grant) = if in_session type then sent32 VALIDITY_TIME terms.validity ∷ [] else []

-- the service ends once the granted units are used, if they are the last (sections 8.34 and 8.35)
abbrev pub final_avps : Bool → List AvpView
final_avps false = []
final_avps true = grouped FINAL_UNIT_INDICATION (sent32 FINAL_UNIT_ACTION TERMINATE ∷ []) ∷ []

-- the AVPs of one service: the grant, the identifiers and the group as sent, the seconds for which the grant may be used, the
-- result, and whether the grant is the last (section 8.16)
abbrev pub service_parts : RequestType → TermsView → ServiceAnswer → List AvpView
service_parts type terms service =
    option_to_list (option_map granted service.grant) ++ map (sent32 SERVICE_IDENTIFIER) service.ids ++
    option_to_list (option_map (sent32 RATING_GROUP) service.group) ++ validity_avps type terms service.grant ++
    sent32 RESULT_CODE (result_number service.result) ∷ final_avps service.is_final

-- a service at the message's level shows its grant alone among the services
abbrev pub service_avps : RequestType → TermsView → Form → ServiceAnswer → List AvpView
service_avps type terms Single service = option_to_list (option_map granted service.grant)
service_avps type terms Multi service = grouped MULTIPLE_SERVICES_CREDIT_CONTROL (service_parts type terms service) ∷ []

-- at the message's level the Final-Unit-Indication stands behind a price
abbrev pub single_final : Form → ServiceAnswer → List AvpView
single_final Single service = final_avps service.is_final
single_final Multi service = []

-- and the Validity-Time behind a balance
abbrev pub single_validity : RequestType → TermsView → Form → ServiceAnswer → List AvpView
single_validity type terms Single service = validity_avps type terms service.grant
single_validity type terms Multi service = []

-- a price in minor units: its digits, and the exponent of ten of a minor unit in the currency, in two's complement if it is
-- negative (RFC 8506, sections 8.8 to 8.10)
abbrev pub unit_value : TermsView → ℕ → AvpView
unit_value terms cost = grouped UNIT_VALUE (sent64 VALUE_DIGITS cost ∷ sent32 EXPONENT (cast_unsigned w32 terms.exponent) ∷ [])

-- a price that was asked for, in its currency (section 8.7)
abbrev pub cost_avp : TermsView → ℕ → AvpView
cost_avp terms cost = grouped COST_INFORMATION (unit_value terms cost ∷ sent32 CURRENCY_CODE terms.currency ∷ [])

-- whether the free money covers the price (section 8.6)
abbrev pub balance_avp : Balance → AvpView
balance_avp balance = sent32 CHECK_BALANCE_RESULT (balance_number balance)

-- the AVPs of an answer behind its beginning: the services, a price, which grant is the last, a balance, and the seconds for
-- which a grant may be used (section 3.2)
abbrev pub told_avps : TermsView → Answer → List AvpView
told_avps terms answer =
    flat_map (λ service. service_avps answer.request terms service.form service) answer.services ++
    option_to_list (option_map (cost_avp terms) answer.cost) ++ flat_map (λ service. single_final service.form service) answer.services ++
    option_to_list (option_map balance_avp answer.balance) ++
    flat_map (λ service. single_validity answer.request terms service.form service) answer.services

-- the AVPs with which each answer to a request begins
abbrev pub head_avps : Identity → RequestType → RequestKey → ℕ → List AvpView
head_avps identity type key code =
    sent SESSION_ID key.sid ∷ sent32 RESULT_CODE code ∷ sent ORIGIN_HOST identity.host ∷ sent ORIGIN_REALM identity.realm ∷
    sent32 AUTH_APPLICATION_ID CREDIT_CONTROL ∷ sent32 CC_REQUEST_TYPE (request_type_number type) ∷ sent32 CC_REQUEST_NUMBER key.number ∷ []

-- the AVPs of an answer, in their order; the outcome of a top-up or an expiry has none
unfoldable pub answer_avps : Identity → TermsView → Outcome → List AvpView
answer_avps identity terms (Unknown type key) = head_avps identity type key USER_UNKNOWN
answer_avps identity terms (Answered answer) =
    head_avps identity answer.request answer.key (result_number answer.result) ++ told_avps terms answer
answer_avps identity terms Added = []
answer_avps identity terms Ceiling = []
answer_avps identity terms (Expired sessions) = []

-- the answer to a request with an outcome, under the request's identifiers and P bit, with its proxies at the end
unfoldable pub answer_octets : Identity → TermsView → HeaderView → List ℕ → Outcome → List ℕ
answer_octets identity terms request proxies outcome =
    answer_with request 0 (answer_avps identity terms outcome) proxies

-- what holds of every outcome
abbrev pub HasLimits : Outcome → Type 0
HasLimits (Unknown type key) = is_short key.sid ≡ true
HasLimits (Answered answer) = (is_short answer.key.sid ≡ true) × AreAnswers answer.services
HasLimits Added = Unit {0}
HasLimits Ceiling = Unit {0}
HasLimits (Expired sessions) = Unit {0}
