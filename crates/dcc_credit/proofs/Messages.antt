-- What the octets of answers tell by themselves.
use Rattle.std.proofs.Common.{◌≡◌, ℕ, ◌≤◌, false, List, ◌++◌, length, Result, Ok, Err, Vec, Global, refl, ap, ◌∙◌}
use Rattle.std.specs.Prelude.{IfOk, OnOk}
use Rattle.std.specs.List.{AllByRecursion}
use Rattle.std.specs.declared.alloc.AllocError.{AllocError}
use Rattle.dcc_avp.specs.Spelling.{AvpView, HasSpelling}
use Rattle.dcc_message.specs.HeaderView.{HeaderView}
use Rattle.dcc_message.specs.declared.identity.Identity.{Identity}
use Rattle.dcc_answer.specs.Answers.{answer_with}
use Rattle.dcc_answer.specs.Proxies.{SpellProxies}
use Rattle.dcc_answer.specs.Results.{are_busy, is_busy}
use Rattle.dcc_tariff.specs.Terms.{TermsView}
use Rattle.dcc_act.specs.declared.outcome.Outcome.{Outcome}
use Rattle.dcc_act.specs.declared.outcome.Outcome.TheVariants.{Unknown, Answered, Added, Ceiling, Expired}
use Rattle.dcc_act.specs.declared.outcome.ResultCode.{ResultCode}
use Rattle.dcc_act.specs.declared.outcome.ResultCode.TheVariants.{Success, CreditLimitReached, UnknownSession, ResourcesExceeded, UnableToComply, RatingFailed}
use Rattle.dcc_act.specs.declared.outcome.RequestType.{RequestType}
use Rattle.dcc_act.specs.declared.request_key.RequestKey.{RequestKey}
use Rattle.dcc_act.specs.Numbers.{result_number}
use Rattle.dcc_credit.specs.Answers.{head_avps, told_avps, answer_avps, answer_octets}
use Rattle.dcc_credit.specs.inner.Limits.{IsAnswerable}
use Rattle.dcc_credit.proofs.Spelled.{AreSizes, answer_spelled}

-- whether an answer is busy is told by its own AVPs, as the law says, and it has at least a header
abbrev pub AreTold : Type 0
AreTold = (request : HeaderView) (bits : ℕ) (avps : List AvpView) (proxies : List ℕ) → AllByRecursion HasSpelling avps → SpellProxies proxies →
    is_busy (answer_with request bits avps proxies) ≡ are_busy avps

abbrev pub AreSome : Type 0
AreSome = (request : HeaderView) (bits : ℕ) (avps : List AvpView) (proxies : List ℕ) → 20 ≤ length (answer_with request bits avps proxies)

no_result_is_busy : (identity : Identity) (type : RequestType) (key : RequestKey) (code : ResultCode) (services : List AvpView) →
    are_busy (head_avps identity type key (result_number code) ++ services) ≡ false
no_result_is_busy identity type key Success services = refl
no_result_is_busy identity type key CreditLimitReached services = refl
no_result_is_busy identity type key UnknownSession services = refl
no_result_is_busy identity type key ResourcesExceeded services = refl
no_result_is_busy identity type key UnableToComply services = refl
no_result_is_busy identity type key RatingFailed services = refl

-- no outcome says that the server is too busy
not_busy : (identity : Identity) (terms : TermsView) (outcome : Outcome) → are_busy (answer_avps identity terms outcome) ≡ false
unfolding answer_avps
not_busy identity terms (Unknown type key) = refl
not_busy identity terms (Answered answer) = no_result_is_busy identity answer.request answer.key answer.result (told_avps terms answer)
not_busy identity terms Added = refl
not_busy identity terms Ceiling = refl
not_busy identity terms (Expired sessions) = refl

pub told_not_busy : AreTold → AreSizes → (identity : Identity) (terms : TermsView) (request : HeaderView) (proxies : List ℕ) (outcome : Outcome) →
    IsAnswerable identity outcome → SpellProxies proxies → is_busy (answer_octets identity terms request proxies outcome) ≡ false
unfolding answer_octets
told_not_busy told sizes identity terms request proxies outcome limits p =
    told request 0 (answer_avps identity terms outcome) proxies (answer_spelled sizes identity terms outcome limits) p ∙ not_busy identity terms outcome

pub answer_least : AreSome → (identity : Identity) (terms : TermsView) (request : HeaderView) (proxies : List ℕ) (outcome : Outcome) →
    20 ≤ length (answer_octets identity terms request proxies outcome)
unfolding answer_octets
answer_least some identity terms request proxies outcome = some request 0 (answer_avps identity terms outcome) proxies

-- ---- what a call wrote

pub written_not_busy : AreTold → AreSizes → (r : Result (Vec ℕ Global) AllocError) (identity : Identity) (terms : TermsView) (request : HeaderView)
    (proxies : List ℕ) (outcome : Outcome) → IfOk r (λ answer. answer.items ≡ answer_octets identity terms request proxies outcome) →
    OnOk r (IsAnswerable identity outcome) → OnOk r (SpellProxies proxies) → IfOk r (λ answer. is_busy answer.items ≡ false)
written_not_busy told sizes (Ok answer) identity terms request proxies outcome is limits p =
    ap is_busy is ∙ told_not_busy told sizes identity terms request proxies outcome limits p
written_not_busy told sizes (Err e) identity terms request proxies outcome is limits p = tt

pub written_some : AreSome → (r : Result (Vec ℕ Global) AllocError) (identity : Identity) (terms : TermsView) (request : HeaderView)
    (proxies : List ℕ) (outcome : Outcome) → IfOk r (λ answer. answer.items ≡ answer_octets identity terms request proxies outcome) →
    IfOk r (λ answer. 20 ≤ length answer.items)
written_some some (Ok answer) identity terms request proxies outcome is = rw is (answer_least some identity terms request proxies outcome)
written_some some (Err e) identity terms request proxies outcome is = tt
