-- What the octets of answers tell by themselves.
use Rattle.std.proofs.Common.{◌≡◌, ℕ, ◌<◌, ◌^◌, ◌≤◌, true, false, List, [], ◌∷◌, ◌++◌, length, Option, None, Result, Ok, Err, Vec, Global, refl, ap, ◌∙◌}
use Rattle.std.specs.Prelude.{◌==◌, IfOk, OnOk}
use Rattle.std.specs.List.{AllByRecursion}
use Rattle.std.proofs.lemmas.Nat.{from_be_bytes-to_be_bytes_4}
use Rattle.std.specs.Option.{ForSome}
use Rattle.dcc_octets.specs.Names.{is_short}
use Rattle.std.specs.declared.alloc.AllocError.{AllocError}
use Rattle.dcc_avp.specs.Spelling.{AvpView, HasSpelling}
use Rattle.dcc_avp.specs.Reading.{avps_of, avps_behind}
use Rattle.dcc_message.specs.HeaderView.{HeaderView}
use Rattle.dcc_message.specs.declared.identity.Identity.{Identity}
use Rattle.dcc_answer.specs.Answers.{answer_with, error_avps, IsServer}
use Rattle.dcc_answer.specs.Failed.{failed_avps}
use Rattle.dcc_answer.specs.Proxies.{SpellProxies}
use Rattle.dcc_answer.specs.Results.{are_busy, is_busy}
use Rattle.dcc_answer.specs.declared.protocol_error.TheConstants.{TOO_BUSY}
use Rattle.dcc_base.specs.Answers.{origin_avps, own_avps, answer_avps}

abbrev pub AllSpelled : List AvpView → Type 0
AllSpelled avps = AllByRecursion HasSpelling avps

pub append_spelled : (xs ys : List AvpView) → AllSpelled xs → AllSpelled ys → AllSpelled (xs ++ ys)
append_spelled [] ys a b = b
append_spelled (x ∷ xs) ys a b = (a.0, append_spelled xs ys a.1 b)

-- the answer says its own code
pub says : (identity : Identity) (code : ℕ) (others : List AvpView) → code < 2 ^ 32 → are_busy (origin_avps identity code ++ others) ≡ (code == TOO_BUSY)
says identity code others small = ap (λ (n : ℕ). n == TOO_BUSY) (from_be_bytes-to_be_bytes_4 code small)

-- as the law of answers tells it
abbrev pub AreTold : Type 0
AreTold = (request : HeaderView) (bits : ℕ) (avps : List AvpView) (proxies : List ℕ) → AllByRecursion HasSpelling avps → SpellProxies proxies →
    is_busy (answer_with request bits avps proxies) ≡ are_busy avps

-- and that what reports an error can be spelled
abbrev pub AreSpelled : Type 0
AreSpelled = (identity : Identity) (code : ℕ) (session : Option (List ℕ)) → IsServer identity → ForSome session (λ octets. is_short octets ≡ true) →
    AllByRecursion HasSpelling (error_avps identity code session)

pub no_session : ForSome None (λ (octets : List ℕ). is_short octets ≡ true)
no_session = λ octets e. absurd cc

pub told : AreTold → AreSpelled → (r : Result (Vec ℕ Global) AllocError) (identity : Identity) (request : HeaderView) (code : ℕ) (failed : List AvpView)
    (proxies : List ℕ) → code < 2 ^ 32 → IfOk r (λ answer. answer.items ≡ answer_with request 0 (answer_avps identity request code failed) proxies) →
    OnOk r (IsServer identity) → OnOk r (AllSpelled (own_avps identity request)) → OnOk r (AllSpelled (failed_avps failed)) → OnOk r (SpellProxies proxies) →
    IfOk r (λ answer. is_busy answer.items ≡ (code == TOO_BUSY))
told law spell (Ok answer) identity request code failed proxies small is server own shown spelled =
    ap is_busy is
    ∙ (law request 0 (answer_avps identity request code failed) proxies
    (append_spelled (origin_avps identity code) (own_avps identity request ++ failed_avps failed) (spell identity code None server no_session)
    (append_spelled (own_avps identity request) (failed_avps failed) own shown)) spelled
    ∙ says identity code (own_avps identity request ++ failed_avps failed) small)
told law spell (Err e) identity request code failed proxies small is server own shown spelled = tt

pub some : ((request : HeaderView) (bits : ℕ) (avps : List AvpView) (proxies : List ℕ) → 20 ≤ length (answer_with request bits avps proxies)) →
    (r : Result (Vec ℕ Global) AllocError) (request : HeaderView) (avps : List AvpView) (proxies : List ℕ) →
    IfOk r (λ answer. answer.items ≡ answer_with request 0 avps proxies) → IfOk r (λ answer. 20 ≤ length answer.items)
some law (Ok answer) request avps proxies is = rw is (law request 0 avps proxies)
some law (Err e) request avps proxies is = tt

-- no octets are no answer
pub none_busy : (octets : List ℕ) → octets ≡ [] → is_busy octets ≡ false
unfolding is_busy avps_of avps_behind
none_busy octets is = rw is refl
