-- The octets of refusals of credit-control requests (RFC 6733, section 7.1.5, and RFC 8506, section 3.2).
use Rattle.std.specs.Prelude.{ℕ, List, [], ◌∷◌, ◌++◌, Option, Some, None, option_map, option_and_then}
use Rattle.std.specs.Int.{w32}
use Rattle.std.specs.List.{find}
use Rattle.std.specs.Option.{option_to_list}
use Rattle.dcc_octets.specs.Numbers.{number_in}
use Rattle.dcc_avp.specs.Spelling.{AvpView, has_code}
use Rattle.dcc_avp.specs.Reading.{FaultView}
use Rattle.dcc_avp.specs.declared.codes.TheConstants.{SESSION_ID, RESULT_CODE, ORIGIN_HOST, ORIGIN_REALM, AUTH_APPLICATION_ID}
use Rattle.dcc_avp.specs.declared.codes.TheConstants.{SUBSCRIPTION_ID, CC_REQUEST_TYPE, CC_REQUEST_NUMBER}
use Rattle.dcc_message.specs.declared.applications.TheConstants.{CREDIT_CONTROL}
use Rattle.dcc_message.specs.HeaderView.{HeaderView}
use Rattle.dcc_message.specs.declared.identity.Identity.{Identity}
use Rattle.dcc_act.specs.declared.act.Act.{Act}
use Rattle.dcc_act.specs.declared.act.Kind.{Kind}
use Rattle.dcc_act.specs.declared.act.Kind.TheVariants as kind
use Rattle.dcc_act.specs.declared.request_key.RequestKey.{RequestKey}
use Rattle.dcc_request.specs.declared.cause.Cause.TheVariants.{MissingAvp}
use Rattle.dcc_request.specs.declared.table.TheConstants.{UPDATE_TYPE, TERMINATION_TYPE}
use Rattle.dcc_request.specs.Checks.{missing_avp}
use Rattle.dcc_request.specs.Refusals.{Refusal, refusal, cause_number}
use Rattle.dcc_request.specs.Layout.{unread}
use Rattle.dcc_answer.specs.Avps.{sent, sent32}
use Rattle.dcc_answer.specs.Answers.{answer_with}
use Rattle.dcc_answer.specs.Failed.{failed_avps}
use Rattle.dcc_request.specs.Sessions.{session_of}

-- the number of the first AVP of a code, if it has four octets
abbrev pub number_of : ℕ → List AvpView → Option ℕ
number_of code avps = option_and_then (λ (avp : AvpView). number_in w32 avp.value) (find (has_code code) avps)

-- the values that a refusal copies from its request beside the proxies: its session, type and number, each if it can be read
pub record Taken : Type 0 where
  pub session : Option (List ℕ)
  pub type : Option ℕ
  pub number : Option ℕ

unfoldable pub taken_from : List AvpView → Taken
taken_from avps = record { session = session_of avps; type = number_of CC_REQUEST_TYPE avps; number = number_of CC_REQUEST_NUMBER avps }

-- the values of a list that can't be read: none
abbrev pub nothing : Taken
nothing = record { session = None; type = None; number = None }

-- the values of a request of this type and key that was read: all
abbrev pub taken : ℕ → RequestKey → Taken
taken type key = record { session = Some key.sid; type = Some type; number = Some key.number }

-- the values of an update or a termination, by its act; none of any other act
abbrev pub taken_of : Kind → Taken
taken_of (kind.TopUp top_up) = nothing
taken_of (kind.Initial request limit host) = nothing
taken_of (kind.Update request) = taken UPDATE_TYPE request.key
taken_of (kind.Termination request) = taken TERMINATION_TYPE request.key
taken_of (kind.Event event) = nothing
taken_of kind.Expiry = nothing

-- a number in its AVP, if there is any
abbrev pub number_avps : ℕ → Option ℕ → List AvpView
number_avps code n = option_to_list (option_map (sent32 code) n)

-- the result, the names of the server, and the application
abbrev pub origin_avps : Identity → ℕ → List AvpView
origin_avps identity code =
    sent32 RESULT_CODE code ∷ sent ORIGIN_HOST identity.host ∷ sent ORIGIN_REALM identity.realm ∷
    sent32 AUTH_APPLICATION_ID CREDIT_CONTROL ∷ []

-- the AVPs of a refusal, in their order
unfoldable pub refusal_avps : Identity → Taken → Refusal → List AvpView
refusal_avps identity over refused =
    option_to_list (option_map (sent SESSION_ID) over.session) ++ origin_avps identity (cause_number refused.cause) ++
    number_avps CC_REQUEST_TYPE over.type ++ number_avps CC_REQUEST_NUMBER over.number ++ failed_avps refused.failed

-- the refusal of a request, under its identifiers and P bit, with its proxies at the end
unfoldable pub refusal_octets : Identity → HeaderView → Taken → List ℕ → Refusal → List ℕ
refusal_octets identity request over proxies refused = answer_with request 0 (refusal_avps identity over refused) proxies

-- the refusal of a request whose list has this fault of layout
abbrev pub unread_octets : Identity → HeaderView → FaultView → List ℕ
unread_octets identity request fault = refusal_octets identity request nothing [] (unread fault)

-- the refusal of an update or a termination that names nobody and whose subscriber was not found: a Subscription-Id is missing
unfoldable pub unfound_octets : Identity → HeaderView → Act → List ℕ → List ℕ
unfound_octets identity request act proxies =
    refusal_octets identity request (taken_of act.kind) proxies (refusal MissingAvp (missing_avp SUBSCRIPTION_ID))
