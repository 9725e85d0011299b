-- No reply is the busy answer, and what is replied to a message that is heard has a header.
use Rattle.std.proofs.Common.{◌≡◌, ℕ, ◌<◌, ◌≤◌, ◌^◌, ◌==◌, true, false, List, [], ◌++◌, length, Option, None, Result, Ok, Err, refl, ◌∙◌, arith, inl, inr, lit<}
use Rattle.std.specs.List.{sum_by, AllByRecursion}
use Rattle.std.specs.Option.{ForSome}
use Rattle.std.proofs.lemmas.Bool.{cases_Bool}
use Rattle.dcc_octets.specs.Names.{is_short}
use Rattle.dcc_avp.specs.Spelling.{AvpView, HasSpelling, padded_len}
use Rattle.dcc_message.specs.HeaderView.{HeaderView}
use Rattle.dcc_message.specs.declared.identity.Identity.{Identity}
use Rattle.dcc_message.specs.declared.length.TheConstants.{MAX_LENGTH}
use Rattle.dcc_request.specs.declared.cause.Cause.{Cause}
use Rattle.dcc_request.specs.declared.cause.Cause.TheVariants.{CommandUnsupported, ApplicationUnsupported, InvalidHeaderBits}
use Rattle.dcc_request.specs.declared.cause.Cause.TheVariants.{AvpUnsupported, InvalidAvpValue, MissingAvp, ContradictingAvps}
use Rattle.dcc_request.specs.declared.cause.Cause.TheVariants.{AvpOccursTooManyTimes, NoCommonApplication, InvalidAvpLength, NoCommonSecurity}
use Rattle.dcc_request.specs.Refusals.{Refusal, cause_number}
use Rattle.dcc_request.specs.Sessions.{session_of}
use Rattle.dcc_answer.specs.declared.protocol_error.TheConstants.{TOO_BUSY}
use Rattle.dcc_answer.specs.Answers.{answer_with, error_octets, IsServer}
use Rattle.dcc_answer.specs.Failed.{failed_avps}
use Rattle.dcc_answer.specs.Proxies.{SpellProxies}
use Rattle.dcc_answer.specs.Results.{is_busy}
use Rattle.dcc_base.specs.declared.answer.TheConstants.{SUCCESS}
use Rattle.dcc_base.specs.declared.effect.Effect.{Effect}
use Rattle.dcc_base.specs.declared.peer.Peer.{Peer}
use Rattle.dcc_base.specs.declared.peer.Peer.TheVariants.{Wait, Open, Closed}
use Rattle.dcc_base.specs.Answers.{Taken, is_capabilities, origin_avps, own_avps, answer_avps, is_protocol_error, refused_octets, answered}
use Rattle.dcc_base.specs.Requests.{Read, judged}
use Rattle.dcc_base.specs.Peers.{taken_from, hears, unheard, replied}
use Rattle.dcc_base.proofs.Results.{AllSpelled, AreTold, AreSpelled, append_spelled, says, no_session, none_busy}
use Rattle.dcc_base.proofs.Sizes.{Shows, MayShowVerdict}

-- what the server tells of itself
own_spelled : (identity : Identity) (request : HeaderView) → length identity.address ≡ 4 → AllSpelled (own_avps identity request)
own_spelled identity request four =
    elim (cases_Bool (is_capabilities request)) [
      | inl t ↦
          rw t (
            record { is_avp = record { code = lit< tt; flags = lit< tt; vendor = tt; flagged = refl }; length = omega arith },
            (
              record { is_avp = record { code = lit< tt; flags = lit< tt; vendor = tt; flagged = refl }; length = lit< tt },
              (
                record { is_avp = record { code = lit< tt; flags = lit< tt; vendor = tt; flagged = refl }; length = lit< tt },
                (record { is_avp = record { code = lit< tt; flags = lit< tt; vendor = tt; flagged = refl }; length = lit< tt }, tt),
              ),
            ),
          )
      | inr f ↦ rw f tt
    ]

-- what the laws say: that a Failed-AVP of what fits a message can be spelled, and that an error is busy just where its code is
abbrev pub AreShown : Type 0
AreShown = (failed : List AvpView) → sum_by padded_len failed ≤ MAX_LENGTH → AllByRecursion HasSpelling (failed_avps failed)

abbrev pub AreErrors : Type 0
AreErrors = (identity : Identity) (code : ℕ) (session : Option (List ℕ)) (request : HeaderView) (proxies : List ℕ) →
    IsServer identity → code < 2 ^ 32 → ForSome session (λ octets. is_short octets ≡ true) → SpellProxies proxies →
    is_busy (error_octets identity code session request proxies) ≡ (code == TOO_BUSY)

pub record Laws : Type 0 where
  pub told : AreTold
  pub spelled : AreSpelled
  pub shown : AreShown
  pub errors : AreErrors

-- an answer in the whole layout
whole : Laws → (identity : Identity) (request : HeaderView) (code : ℕ) (failed : List AvpView) (proxies : List ℕ) → IsServer identity →
    length identity.address ≡ 4 → code < 2 ^ 32 → (code == TOO_BUSY) ≡ false → sum_by padded_len failed ≤ MAX_LENGTH → SpellProxies proxies →
    is_busy (answer_with request 0 (answer_avps identity request code failed) proxies) ≡ false
whole laws identity request code failed proxies server four small other few p =
    laws.told request 0 (answer_avps identity request code failed) proxies
    (append_spelled (origin_avps identity code) (own_avps identity request ++ failed_avps failed) (laws.spelled identity code None server no_session)
    (append_spelled (own_avps identity request) (failed_avps failed) (own_spelled identity request four) (laws.shown failed few))) p
    ∙ says identity code (own_avps identity request ++ failed_avps failed) small ∙ other

-- no cause is that the server is busy
no_cause_is_busy : (cause : Cause) → (cause_number cause == TOO_BUSY) ≡ false
no_cause_is_busy CommandUnsupported = refl
no_cause_is_busy ApplicationUnsupported = refl
no_cause_is_busy InvalidHeaderBits = refl
no_cause_is_busy AvpUnsupported = refl
no_cause_is_busy InvalidAvpValue = refl
no_cause_is_busy MissingAvp = refl
no_cause_is_busy ContradictingAvps = refl
no_cause_is_busy AvpOccursTooManyTimes = refl
no_cause_is_busy NoCommonApplication = refl
no_cause_is_busy InvalidAvpLength = refl
no_cause_is_busy NoCommonSecurity = refl

cause_small : (cause : Cause) → cause_number cause < 2 ^ 32
cause_small CommandUnsupported = lit< tt
cause_small ApplicationUnsupported = lit< tt
cause_small InvalidHeaderBits = lit< tt
cause_small AvpUnsupported = lit< tt
cause_small InvalidAvpValue = lit< tt
cause_small MissingAvp = lit< tt
cause_small ContradictingAvps = lit< tt
cause_small AvpOccursTooManyTimes = lit< tt
cause_small NoCommonApplication = lit< tt
cause_small InvalidAvpLength = lit< tt
cause_small NoCommonSecurity = lit< tt

-- what is known of what an answer takes over
pub record MayTake (taken : Taken) : Type 0 where
  pub short : ForSome taken.session (λ octets. is_short octets ≡ true)
  pub spelled : SpellProxies taken.proxies

refused : Laws → (identity : Identity) (request : HeaderView) (taken : Taken) (refusal : Refusal) → IsServer identity → length identity.address ≡ 4 →
    MayTake taken → Shows refusal → is_busy (refused_octets identity request taken refusal) ≡ false
refused laws identity request taken refusal server four may shows =
    let code = cause_number refusal.cause in
    elim (cases_Bool (is_protocol_error code)) [
      | inl t ↦ rw t (laws.errors identity code taken.session request taken.proxies server (cause_small refusal.cause) may.short may.spelled ∙ no_cause_is_busy refusal.cause)
      | inr f ↦ rw f (whole laws identity request code refusal.failed taken.proxies server four (cause_small refusal.cause) (no_cause_is_busy refusal.cause) shows may.spelled)
    ]

answered_apart : Laws → (identity : Identity) (request : HeaderView) (taken : Taken) (verdict : Result Effect Refusal) → IsServer identity →
    length identity.address ≡ 4 → MayTake taken → MayShowVerdict verdict → is_busy (answered identity request taken verdict) ≡ false
answered_apart laws identity request taken (Ok effect) server four may shows =
    whole laws identity request SUCCESS [] taken.proxies server four (lit< tt) refl (omega arith) may.spelled
answered_apart laws identity request taken (Err refusal) server four may shows = refused laws identity request taken refusal server four may shows

passed_apart : (peer : Peer) → is_busy (unheard peer).0.octets ≡ false
passed_apart Wait = none_busy [] refl
passed_apart (Open host) = none_busy [] refl
passed_apart Closed = none_busy [] refl

pub replied_apart : Laws → (identity : Identity) (peer : Peer) (header : HeaderView) (read : Read) → IsServer identity → length identity.address ≡ 4 →
    MayTake (taken_from read) → MayShowVerdict (judged header read) → is_busy (replied identity peer header read).0.octets ≡ false
unfolding replied
replied_apart laws identity peer header read server four may shows =
    elim (cases_Bool (hears peer header)) [
      | inl t ↦ rw t (answered_apart laws identity header (taken_from read) (judged header read) server four may shows)
      | inr f ↦ rw f (passed_apart peer)
    ]

-- ---- what is known of a list that was read, and of one that can't be

pub read_short : (avps : List AvpView) → ForSome (session_of avps) (λ octets. is_short octets ≡ true)
unfolding session_of
read_short avps = grind arith

-- ---- and each has a header

abbrev pub AreSome : Type 0
AreSome = (request : HeaderView) (bits : ℕ) (avps : List AvpView) (proxies : List ℕ) → 20 ≤ length (answer_with request bits avps proxies)

abbrev pub AreErrorsSome : Type 0
AreErrorsSome = (identity : Identity) (code : ℕ) (session : Option (List ℕ)) (request : HeaderView) (proxies : List ℕ) →
    20 ≤ length (error_octets identity code session request proxies)

answered_some : AreSome → AreErrorsSome → (identity : Identity) (request : HeaderView) (taken : Taken) (verdict : Result Effect Refusal) →
    20 ≤ length (answered identity request taken verdict)
answered_some some errors identity request taken (Ok effect) = some request 0 (answer_avps identity request SUCCESS []) taken.proxies
answered_some some errors identity request taken (Err refusal) =
    let code = cause_number refusal.cause in
    elim (cases_Bool (is_protocol_error code)) [
      | inl t ↦ rw t (errors identity code taken.session request taken.proxies)
      | inr f ↦ rw f (some request 0 (answer_avps identity request code refusal.failed) taken.proxies)
    ]

pub replied_some : AreSome → AreErrorsSome → (identity : Identity) (peer : Peer) (header : HeaderView) (read : Read) → hears peer header ≡ true →
    20 ≤ length (replied identity peer header read).0.octets
unfolding replied
replied_some some errors identity peer header read heard = rw heard (answered_some some errors identity header (taken_from read) (judged header read))
