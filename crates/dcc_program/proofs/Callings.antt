-- What is printed of an answer is printed of the octets with which it came.
use Rattle.std.proofs.Common.{ℕ, List, Option, Some, None, Result, IfSome}
use Rattle.std.specs.Prelude.{OnOk}
use Rattle.std.specs.Io.KnownBytes.{Appends}
use Rattle.std.proofs.lemmas.Result.{on_ok_weaker}
use Rattle.dcc_client.specs.Answers.{IsAnswered}
use Rattle.dcc_client.specs.declared.call.Call.{Call}
use Rattle.dcc_client.specs.declared.finding.Answer.{Answer}
use Rattle.dcc_program.specs.Callings.{IsCalled, text_of}
use Rattle.dcc_program.specs.declared.calling.CallFailure.{CallFailure}

pub called : (call : Call) (given : Option (List ℕ)) (answer : Answer) (r : Result (Unit {0}) CallFailure) (old new : Option (List ℕ))
    → IfSome given (λ octets. IsAnswered call octets answer) → OnOk r (Appends old new (text_of call answer.finding answer.body.items))
    → OnOk r (IfSome given (λ octets. IsCalled call octets old new))
called call None answer r old new found whole = on_ok_weaker r (λ _. tt) whole
called call (Some octets) answer r old new found whole = on_ok_weaker r (λ it. (answer, found, it)) whole
