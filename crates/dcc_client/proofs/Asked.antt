-- What is said of the octets of an answer is said of what its reader gave.
use Rattle.std.proofs.Common.{◌≡◌, ℕ, List, Option, Some, None, Result, Ok, Err, IfOk, IfErr, IfSome, subst}
use Rattle.http1.specs.declared.framing.MethodKind.{MethodKind}
use Rattle.dcc_client.specs.declared.call.Call.{Call}
use Rattle.dcc_client.specs.declared.fault.CallFault.{CallFault}
use Rattle.dcc_client.specs.declared.fault.CallFault.TheVariants.{Unfit}
use Rattle.dcc_client.specs.declared.finding.Answer.{Answer}
use Rattle.dcc_client.specs.Answers.{IsAnswered, IsUnfit}
use Rattle.dcc_client.specs.inner.Reading.{IsReply}

pub found_in : (method : MethodKind) (call : Call) (given : Option (List ℕ)) (octets : List ℕ) (status : ℕ) (body : List ℕ) (r : Result Answer CallFault)
    → IfSome given (λ all. octets ≡ all) → IsReply method octets status body
    → IfOk r (λ answer. (all : List ℕ) → IsReply method all status body → IsAnswered call all answer)
    → IfOk r (λ answer. IfSome given (λ all. IsAnswered call all answer))
found_in method call None octets status body (Ok answer) same reply found = tt
found_in method call (Some all) octets status body (Ok answer) same reply found =
    subst (λ (l : List ℕ). IsAnswered call l answer) same (found octets reply)
found_in method call given octets status body (Err fault) same reply found = tt

pub unfit_in : (method : MethodKind) (call : Call) (given : Option (List ℕ)) (octets : List ℕ) (status : ℕ) (body : List ℕ) (r : Result Answer CallFault)
    → IfSome given (λ all. octets ≡ all) → IsReply method octets status body
    → IfErr r (λ fault. (s : ℕ) → fault ≡ Unfit s → (all : List ℕ) → IsReply method all status body → IsUnfit call all s)
    → IfErr r (λ fault. (s : ℕ) → fault ≡ Unfit s → IfSome given (λ all. IsUnfit call all s))
unfit_in method call given octets status body (Ok answer) same reply unfit = tt
unfit_in method call None octets status body (Err fault) same reply unfit = λ s is. tt
unfit_in method call (Some all) octets status body (Err fault) same reply unfit =
    λ s is. subst (λ (l : List ℕ). IsUnfit call l s) same (unfit s is octets reply)
