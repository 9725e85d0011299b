-- What the octets of answers tell by themselves.
use Rattle.std.proofs.Common.{◌≡◌, ℕ, ◌<◌, ◌^◌, ◌≤◌, true, false, List, [], ◌∷◌, ◌++◌, length, Option, Some, None, Result, Ok, Err, Vec, Global, filter, refl, ap, ◌∙◌, arith, inl, inr}
use Rattle.std.specs.Prelude.{◌==◌, IfOk, OnOk, option_and_then}
use Rattle.std.specs.Int.{w32}
use Rattle.std.specs.List.{flat_map, find, AllByRecursion}
use Rattle.std.specs.Option.{ForSome}
use Rattle.std.proofs.lemmas.Bool.{cases_Bool}
use Rattle.std.proofs.lemmas.Nat.{from_be_bytes-to_be_bytes_4}
use Rattle.std.proofs.lemmas.Bool.Decides.{nat_tests}
use Rattle.std.specs.declared.alloc.AllocError.{AllocError}
use Rattle.dcc_octets.specs.Names.{is_short}
use Rattle.dcc_octets.specs.Numbers.{number_in}
use Rattle.dcc_avp.specs.Spelling.{AvpView, padded, has_code, HasSpelling, Spells}
use Rattle.dcc_avp.specs.Reading.{avps_of}
use Rattle.dcc_avp.specs.declared.codes.TheConstants.{RESULT_CODE, PROXY_INFO}
use Rattle.dcc_message.specs.HeaderView.{HeaderView}
use Rattle.dcc_message.specs.Headers.{header, message}
use Rattle.dcc_message.specs.declared.identity.Identity.{Identity}
use Rattle.dcc_message.specs.declared.command_flags.TheConstants.{ERROR}
use Rattle.dcc_answer.specs.declared.protocol_error.TheConstants.{TOO_BUSY}
use Rattle.dcc_answer.specs.Answers.{answer_header, answer_with, error_avps, error_octets, IsServer}
use Rattle.dcc_answer.specs.Proxies.{proxies_of, AreProxies, SpellProxies}
use Rattle.dcc_answer.specs.Results.{is_just, are_busy, says_busy, is_busy}
use Rattle.dcc_answer.proofs.Spelled.{AllSpelled, append_spelled, error_spelled}
use Rattle.dcc_answer.proofs.ReadBack.{avps_back}

-- a message has at least its header
least_message : (h : HeaderView) (avps : List ℕ) → 20 ≤ length (message h avps)
unfolding message header
least_message h avps = omega arith

pub answer_least : (request : HeaderView) (bits : ℕ) (avps : List AvpView) (proxies : List ℕ) → 20 ≤ length (answer_with request bits avps proxies)
answer_least request bits avps proxies = least_message (answer_header request bits) (flat_map padded avps ++ proxies)

-- ---- proxies

pub proxies_spelled : (proxies : List AvpView) → AreProxies proxies → AllSpelled proxies
proxies_spelled [] h = tt
proxies_spelled (avp ∷ others) h = (h.0.spelled, proxies_spelled others h.1)

-- a Proxy-Info is no Result-Code
other_code : (avp : AvpView) → has_code PROXY_INFO avp ≡ true → has_code RESULT_CODE avp ≡ false
other_code avp h = grind (arith, nat_tests)

none_of_proxies : (proxies : List AvpView) → AreProxies proxies → find (has_code RESULT_CODE) proxies ≡ None
none_of_proxies [] h = refl
none_of_proxies (avp ∷ others) h = rw (other_code avp h.0.is_proxy) (none_of_proxies others h.1)

-- so proxies behind others tell nothing of the result
found_before : (avps proxies : List AvpView) → AreProxies proxies → find (has_code RESULT_CODE) (avps ++ proxies) ≡ find (has_code RESULT_CODE) avps
found_before [] proxies h = none_of_proxies proxies h
found_before (avp ∷ others) proxies h =
    elim (cases_Bool (has_code RESULT_CODE avp)) [
      | inl here ↦ rw here refl
      | inr other ↦ rw other (found_before others proxies h)
    ]

result_before : (avps proxies : List AvpView) → AreProxies proxies → are_busy (avps ++ proxies) ≡ are_busy avps
result_before avps proxies h =
    ap (λ (found : Option AvpView). is_just TOO_BUSY (option_and_then (λ (avp : AvpView). number_in w32 avp.value) found)) (found_before avps proxies h)

some_proxies : (avp : AvpView) (others : List AvpView) → HasSpelling avp → AreProxies (filter (has_code PROXY_INFO) others) →
    AreProxies (filter (has_code PROXY_INFO) (avp ∷ others))
some_proxies avp others h rest =
    elim (cases_Bool (has_code PROXY_INFO avp)) [
      | inl here ↦ rw here (record { spelled = h; is_proxy = here }, rest)
      | inr other ↦ rw other rest
    ]

filtered : (octets : List ℕ) (avps : List AvpView) → Spells octets avps → AreProxies (filter (has_code PROXY_INFO) avps)
filtered octets [] s = tt
filtered octets (avp ∷ others) s = some_proxies avp others s.0 (filtered s.2 others s.5)

pub proxies_of_read : (octets : List ℕ) (avps : List AvpView) → Spells octets avps → SpellProxies (proxies_of avps)
unfolding proxies_of
proxies_of_read octets avps s = (filter (has_code PROXY_INFO) avps, filtered octets avps s, refl)

-- ---- busy or not

-- what was written is read back, as the law says
abbrev pub AreReadBack : Type 0
AreReadBack = (avps : List AvpView) → AllByRecursion HasSpelling avps → avps_of (flat_map padded avps) ≡ Ok avps

told_of : AreReadBack → (request : HeaderView) (bits : ℕ) (avps proxies : List AvpView) → AllSpelled avps → AreProxies proxies →
    is_busy (answer_with request bits avps (flat_map padded proxies)) ≡ are_busy avps
unfolding is_busy
told_of back request bits avps proxies spelled h =
    ap says_busy (avps_back (answer_header request bits) avps proxies back (append_spelled avps proxies spelled (proxies_spelled proxies h)))
    ∙ result_before avps proxies h

-- with proxies as their octets
pub told : AreReadBack → (request : HeaderView) (bits : ℕ) (avps : List AvpView) (proxies : List ℕ) → AllSpelled avps → SpellProxies proxies →
    is_busy (answer_with request bits avps proxies) ≡ are_busy avps
told back request bits avps proxies spelled p =
    ap (λ (octets : List ℕ). is_busy (answer_with request bits avps octets)) p.2 ∙ told_of back request bits avps p.0 spelled p.1

-- the answer that reports a protocol error says its own code
pub error_says : (identity : Identity) (code : ℕ) (session : Option (List ℕ)) → code < 2 ^ 32 → are_busy (error_avps identity code session) ≡ (code == TOO_BUSY)
error_says identity code None small = ap (λ (n : ℕ). n == TOO_BUSY) (from_be_bytes-to_be_bytes_4 code small)
error_says identity code (Some octets) small = ap (λ (n : ℕ). n == TOO_BUSY) (from_be_bytes-to_be_bytes_4 code small)

pub told_error : AreReadBack → (identity : Identity) (code : ℕ) (session : Option (List ℕ)) (request : HeaderView) (proxies : List ℕ) →
    IsServer identity → code < 2 ^ 32 → ForSome session (λ octets. is_short octets ≡ true) → SpellProxies proxies →
    is_busy (error_octets identity code session request proxies) ≡ (code == TOO_BUSY)
unfolding error_octets
told_error back identity code session request proxies server small short p =
    told back request ERROR (error_avps identity code session) proxies (error_spelled identity code session server short) p
    ∙ error_says identity code session small

pub error_least : (identity : Identity) (code : ℕ) (session : Option (List ℕ)) (request : HeaderView) (proxies : List ℕ) →
    20 ≤ length (error_octets identity code session request proxies)
unfolding error_octets
error_least identity code session request proxies = answer_least request ERROR (error_avps identity code session) proxies

-- ---- what a call wrote

pub written_error : AreReadBack → (r : Result (Vec ℕ Global) AllocError) (identity : Identity) (code : ℕ) (session : Option (List ℕ)) (request : HeaderView)
    (proxies : List ℕ) → code < 2 ^ 32 → IfOk r (λ error. error.items ≡ error_octets identity code session request proxies) →
    OnOk r (IsServer identity) → OnOk r (ForSome session (λ octets. is_short octets ≡ true)) → OnOk r (SpellProxies proxies) →
    IfOk r (λ error. is_busy error.items ≡ (code == TOO_BUSY))
written_error back (Ok error) identity code session request proxies small is server short p =
    ap is_busy is ∙ told_error back identity code session request proxies server small short p
written_error back (Err e) identity code session request proxies small is server short p = tt

pub written_some : (r : Result (Vec ℕ Global) AllocError) (identity : Identity) (code : ℕ) (session : Option (List ℕ)) (request : HeaderView)
    (proxies : List ℕ) → IfOk r (λ error. error.items ≡ error_octets identity code session request proxies) → IfOk r (λ error. 20 ≤ length error.items)
written_some (Ok error) identity code session request proxies is = rw is (error_least identity code session request proxies)
written_some (Err e) identity code session request proxies is = tt
