-- A refusal is no busy answer.
use Rattle.std.proofs.Common.{◌≡◌, ℕ, ◌<◌, ◌≤◌, ◌^◌, true, false, List, ◌++◌, length, Option, Some, None, Result, Ok, Err, Vec, Global, refl, ap, ◌∙◌, arith, lit<}
use Rattle.std.specs.Prelude.{option_map, IfOk, OnOk}
use Rattle.std.specs.Int.{w32, to_be_bytes}
use Rattle.std.specs.List.{AllByRecursion}
use Rattle.std.specs.Option.{option_to_list, ForSome}
use Rattle.std.specs.declared.alloc.AllocError.{AllocError}
use Rattle.dcc_octets.specs.Names.{is_short}
use Rattle.dcc_octets.specs.Numbers.{number_in}
use Rattle.dcc_avp.specs.Spelling.{AvpView, HasSpelling}
use Rattle.dcc_avp.specs.declared.codes.TheConstants.{SESSION_ID, RESULT_CODE, ORIGIN_HOST, ORIGIN_REALM, AUTH_APPLICATION_ID, CC_REQUEST_TYPE, CC_REQUEST_NUMBER, SUBSCRIPTION_ID}
use Rattle.dcc_message.specs.HeaderView.{HeaderView}
use Rattle.dcc_message.specs.declared.applications.TheConstants.{CREDIT_CONTROL}
use Rattle.dcc_message.specs.declared.identity.Identity.{Identity}
use Rattle.dcc_request.specs.declared.cause.Cause.{Cause}
use Rattle.dcc_request.specs.declared.cause.Cause.TheVariants.{CommandUnsupported, ApplicationUnsupported, InvalidHeaderBits}
use Rattle.dcc_request.specs.declared.cause.Cause.TheVariants.{AvpUnsupported, InvalidAvpValue, MissingAvp, ContradictingAvps}
use Rattle.dcc_request.specs.declared.cause.Cause.TheVariants.{AvpOccursTooManyTimes, NoCommonApplication, InvalidAvpLength, NoCommonSecurity}
use Rattle.dcc_request.specs.Refusals.{Refusal, refusal, cause_number}
use Rattle.dcc_request.specs.Checks.{missing_avp}
use Rattle.dcc_act.specs.declared.act.Act.{Act}
use Rattle.dcc_answer.specs.declared.protocol_error.TheConstants.{TOO_BUSY}
use Rattle.dcc_answer.specs.Avps.{sent}
use Rattle.dcc_answer.specs.Answers.{IsServer}
use Rattle.dcc_answer.specs.Failed.{failed_avps}
use Rattle.dcc_answer.specs.Proxies.{SpellProxies}
use Rattle.dcc_answer.specs.Results.{is_just, are_busy, is_busy}
use Rattle.dcc_credit.specs.Refusals.{Taken, taken_of, number_avps, origin_avps, refusal_avps, refusal_octets, unfound_octets}
use Rattle.dcc_credit.proofs.Messages.{AreTold, AreSome}
use Rattle.dcc_credit.proofs.Spelled.{AllSpelled, sent_spelled, sent32_spelled, append_spelled, few_octets, few_of}

-- ---- each AVP has a spelling

session_spelled : (session : Option (List ℕ)) → ForSome session (λ octets. is_short octets ≡ true) → AllSpelled (option_to_list (option_map (sent SESSION_ID) session))
session_spelled None short = tt
session_spelled (Some octets) short =
    let few = few_octets octets (short octets refl) in
    (sent_spelled SESSION_ID octets (lit< tt) (omega arith), tt)

number_spelled : (code : ℕ) (n : Option ℕ) → code < 2 ^ 32 → AllSpelled (number_avps code n)
number_spelled code None small = tt
number_spelled code (Some n) small = (sent32_spelled code n small, tt)

origin_spelled : (identity : Identity) (code : ℕ) → IsServer identity → AllSpelled (origin_avps identity code)
origin_spelled identity code server =
    let host = few_of identity.host server.host in
    let realm = few_of identity.realm server.realm in (
      sent32_spelled RESULT_CODE code (lit< tt),
      (
        sent_spelled ORIGIN_HOST identity.host (lit< tt) (omega arith),
        (sent_spelled ORIGIN_REALM identity.realm (lit< tt) (omega arith), (sent32_spelled AUTH_APPLICATION_ID CREDIT_CONTROL (lit< tt), tt)),
      ),
    )

refusal_spelled : (identity : Identity) (taken : Taken) (refusal : Refusal) → IsServer identity → ForSome taken.session (λ octets. is_short octets ≡ true) →
    AllSpelled (failed_avps refusal.failed) → AllSpelled (refusal_avps identity taken refusal)
unfolding refusal_avps
refusal_spelled identity taken refusal server short failed =
    let session = option_to_list (option_map (sent SESSION_ID) taken.session) in
    let origin = origin_avps identity (cause_number refusal.cause) in
    let type = number_avps CC_REQUEST_TYPE taken.type in
    let number = number_avps CC_REQUEST_NUMBER taken.number in
    append_spelled (session ++ origin ++ type ++ number) (failed_avps refusal.failed)
    (append_spelled (session ++ origin ++ type) number
    (append_spelled (session ++ origin) type
    (append_spelled session origin (session_spelled taken.session short) (origin_spelled identity (cause_number refusal.cause) server))
    (number_spelled CC_REQUEST_TYPE taken.type (lit< tt)))
    (number_spelled CC_REQUEST_NUMBER taken.number (lit< tt))) failed

-- ---- its result

-- the result of a refusal is told by its code
told_code : (session : Option (List ℕ)) (identity : Identity) (code : ℕ) (type number failed : List AvpView) →
    are_busy (option_to_list (option_map (sent SESSION_ID) session) ++ origin_avps identity code ++ type ++ number ++ failed) ≡ is_just TOO_BUSY (number_in w32 (to_be_bytes w32 code))
told_code None identity code type number failed = refl
told_code (Some octets) identity code type number failed = refl

no_cause_is_busy : (cause : Cause) → is_just TOO_BUSY (number_in w32 (to_be_bytes w32 (cause_number cause))) ≡ false
no_cause_is_busy CommandUnsupported = refl
no_cause_is_busy ApplicationUnsupported = refl
no_cause_is_busy InvalidHeaderBits = refl
no_cause_is_busy AvpUnsupported = refl
no_cause_is_busy InvalidAvpValue = refl
no_cause_is_busy MissingAvp = refl
no_cause_is_busy ContradictingAvps = refl
no_cause_is_busy AvpOccursTooManyTimes = refl
no_cause_is_busy NoCommonApplication = refl
no_cause_is_busy InvalidAvpLength = refl
no_cause_is_busy NoCommonSecurity = refl

not_busy : (identity : Identity) (taken : Taken) (refusal : Refusal) → are_busy (refusal_avps identity taken refusal) ≡ false
unfolding refusal_avps
not_busy identity taken refusal =
    told_code taken.session identity (cause_number refusal.cause) (number_avps CC_REQUEST_TYPE taken.type) (number_avps CC_REQUEST_NUMBER taken.number) (failed_avps refusal.failed)
    ∙ no_cause_is_busy refusal.cause

pub refusal_not_busy : AreTold → (identity : Identity) (request : HeaderView) (taken : Taken) (proxies : List ℕ) (refusal : Refusal) →
    IsServer identity → ForSome taken.session (λ octets. is_short octets ≡ true) → AllSpelled (failed_avps refusal.failed) → SpellProxies proxies →
    is_busy (refusal_octets identity request taken proxies refusal) ≡ false
unfolding refusal_octets
refusal_not_busy told identity request taken proxies refusal server short failed p =
    told request 0 (refusal_avps identity taken refusal) proxies (refusal_spelled identity taken refusal server short failed) p ∙ not_busy identity taken refusal

-- a message without an AVP that has to be there
abbrev pub lacking : ℕ → Refusal
lacking code = refusal MissingAvp (missing_avp code)

pub unfound_not_busy : AreTold → (identity : Identity) (request : HeaderView) (act : Act) (proxies : List ℕ) →
    IsServer identity → ForSome (taken_of act.kind).session (λ octets. is_short octets ≡ true) → AllSpelled (failed_avps (lacking SUBSCRIPTION_ID).failed) → SpellProxies proxies →
    is_busy (unfound_octets identity request act proxies) ≡ false
unfolding unfound_octets
unfound_not_busy told identity request act proxies server short failed p =
    refusal_not_busy told identity request (taken_of act.kind) proxies (lacking SUBSCRIPTION_ID) server short failed p

pub refusal_least : AreSome → (identity : Identity) (request : HeaderView) (taken : Taken) (proxies : List ℕ) (refusal : Refusal) →
    20 ≤ length (refusal_octets identity request taken proxies refusal)
unfolding refusal_octets
refusal_least some identity request taken proxies refusal = some request 0 (refusal_avps identity taken refusal) proxies

-- ---- what a call wrote

pub refused_not_busy : AreTold → (r : Result (Vec ℕ Global) AllocError) (identity : Identity) (request : HeaderView) (taken : Taken) (proxies : List ℕ)
    (refusal : Refusal) → IfOk r (λ answer. answer.items ≡ refusal_octets identity request taken proxies refusal) → OnOk r (IsServer identity) →
    OnOk r (ForSome taken.session (λ octets. is_short octets ≡ true)) → OnOk r (AllByRecursion HasSpelling (failed_avps refusal.failed)) →
    OnOk r (SpellProxies proxies) → IfOk r (λ answer. is_busy answer.items ≡ false)
refused_not_busy told (Ok answer) identity request taken proxies refusal is server short failed p =
    ap is_busy is ∙ refusal_not_busy told identity request taken proxies refusal server short failed p
refused_not_busy told (Err e) identity request taken proxies refusal is server short failed p = tt

pub refused_some : AreSome → (r : Result (Vec ℕ Global) AllocError) (identity : Identity) (request : HeaderView) (taken : Taken) (proxies : List ℕ)
    (refusal : Refusal) → IfOk r (λ answer. answer.items ≡ refusal_octets identity request taken proxies refusal) → IfOk r (λ answer. 20 ≤ length answer.items)
refused_some some (Ok answer) identity request taken proxies refusal is = rw is (refusal_least some identity request taken proxies refusal)
refused_some some (Err e) identity request taken proxies refusal is = tt
