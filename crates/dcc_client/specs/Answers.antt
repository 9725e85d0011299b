-- The answer to a call.
use Rattle.std.specs.Prelude.{◌≡◌, ℕ, List, Some, None}
use Rattle.httparse.specs.Grammar.{status_code}
use Rattle.http1.specs.Framing.{method_kind}
use Rattle.http1.specs.Message.{Response, ReadsResponseMessage}
use Rattle.dcc_client.specs.declared.call.Call.{Call}
use Rattle.dcc_client.specs.declared.finding.Answer.{Answer}
use Rattle.dcc_client.specs.declared.request.TheConstants.{LIMITS}
use Rattle.dcc_client.specs.Requests.{method_of}
use Rattle.dcc_client.specs.Findings.{finding_of}

-- the octets begin with a response to a call, by the grammar of `http1` within the limits
abbrev pub Begins : Call → (octets : List ℕ) → Response → (rest : List ℕ) → Type 0
Begins call octets response rest = ReadsResponseMessage LIMITS (method_kind (method_of call)) octets response rest

-- the answer is the finding of the response with which the octets begin, and the body of this response
pub record IsAnswered (call : Call) (octets : List ℕ) (answer : Answer) : Type 0 where
  pub response : Response
  pub rest : List ℕ
  pub begins : Begins call octets response rest
  pub found : finding_of call (status_code response.head) response.body.bytes ≡ Some answer.finding
  pub content : answer.body.items ≡ response.body.bytes

-- the octets begin with a response with this status, which is none of the call's answers
abbrev pub IsUnfit : Call → (octets : List ℕ) → (status : ℕ) → Type 0
IsUnfit call octets status =
    (response : Response) × (rest : List ℕ) × Begins call octets response rest × (status_code response.head ≡ status)
    × (finding_of call status response.body.bytes ≡ None)
