-- The octets of the answers to requests of the base protocol (RFC 6733, sections 5.3.2, 5.4.2, 5.5.2 and 7.2).
use Rattle.std.specs.Prelude.{ℕ, Bool, ◌&&◌, nat_le, nat_lt, if◌then◌else◌, List, [], ◌∷◌, ◌++◌, Option, Result, Ok, Err}
use Rattle.dcc_avp.specs.Spelling.{AvpView, plain}
use Rattle.dcc_avp.specs.declared.codes.TheConstants.{RESULT_CODE, ORIGIN_HOST, ORIGIN_REALM, HOST_IP_ADDRESS, VENDOR_ID, PRODUCT_NAME, AUTH_APPLICATION_ID}
use Rattle.dcc_message.specs.HeaderView.{HeaderView}
use Rattle.dcc_message.specs.Headers.{is_command}
use Rattle.dcc_message.specs.declared.applications.TheConstants as applications
use Rattle.dcc_message.specs.declared.commands.TheConstants as commands
use Rattle.dcc_message.specs.declared.identity.Identity.{Identity}
use Rattle.dcc_request.specs.Refusals.{Refusal, cause_number}
use Rattle.dcc_answer.specs.Avps.{sent, sent32}
use Rattle.dcc_answer.specs.Answers.{answer_with, error_octets}
use Rattle.dcc_answer.specs.Failed.{failed_avps}
use Rattle.dcc_base.specs.declared.answer.TheConstants.{SUCCESS, FAMILY, PRODUCT, OWN_VENDOR}
use Rattle.dcc_base.specs.declared.effect.Effect.{Effect}

-- the message is of the capabilities exchange
abbrev pub is_capabilities : HeaderView → Bool
is_capabilities header = is_command commands.CAPABILITIES_EXCHANGE applications.BASE header

-- the AVPs with which each answer begins
abbrev pub origin_avps : Identity → ℕ → List AvpView
origin_avps identity code = sent32 RESULT_CODE code ∷ sent ORIGIN_HOST identity.host ∷ sent ORIGIN_REALM identity.realm ∷ []

-- an IPv4 address behind its family
abbrev pub address_octets : List ℕ → List ℕ
address_octets address = FAMILY ++ address

-- The server's own capabilities: its address, that no vendor made it, its name, for which M isn't set (section 5.3.7), and its application.
abbrev pub own_capabilities : Identity → List AvpView
own_capabilities identity =
    sent HOST_IP_ADDRESS (address_octets identity.address) ∷ sent32 VENDOR_ID OWN_VENDOR ∷ plain PRODUCT_NAME 0 PRODUCT ∷
    sent32 AUTH_APPLICATION_ID applications.CREDIT_CONTROL ∷ []

-- the server's own capabilities in the exchange of capabilities, and else nothing
abbrev pub own_avps : Identity → HeaderView → List AvpView
own_avps identity request = if is_capabilities request then own_capabilities identity else []

-- the AVPs of an answer, with this Result-Code and these AVPs in its Failed-AVP
abbrev pub answer_avps : Identity → HeaderView → ℕ → List AvpView → List AvpView
answer_avps identity request code failed = origin_avps identity code ++ own_avps identity request ++ failed_avps failed

-- a Result-Code that reports a protocol error (section 7.1.3)
abbrev pub is_protocol_error : ℕ → Bool
is_protocol_error code = nat_le 3000 code && nat_lt code 4000

-- the session and the proxies that an answer copies from its request
pub record Taken : Type 0 where
  pub session : Option (List ℕ)
  pub proxies : List ℕ

-- the answer to a refused request: a protocol error is reported in fewer AVPs, with E set
abbrev pub refused_octets : Identity → HeaderView → Taken → Refusal → List ℕ
refused_octets identity request taken refusal =
    if is_protocol_error (cause_number refusal.cause)
    then error_octets identity (cause_number refusal.cause) taken.session request taken.proxies
    else answer_with request 0 (answer_avps identity request (cause_number refusal.cause) refusal.failed) taken.proxies

abbrev pub answered : Identity → HeaderView → Taken → Result Effect Refusal → List ℕ
answered identity request taken (Ok effect) = answer_with request 0 (answer_avps identity request SUCCESS []) taken.proxies
answered identity request taken (Err refusal) = refused_octets identity request taken refusal
