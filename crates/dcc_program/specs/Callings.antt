-- `dcc topup`, `dcc ledger` and `dcc balance` by a server that runs.
use Rattle.std.specs.Prelude.{ℕ, List, [], ◌∷◌, ◌++◌, Option}
use Rattle.std.specs.Io.KnownBytes.{Appends}
use Rattle.dcc_act.specs.Subs.{SubView}
use Rattle.dcc_client.specs.Answers.{IsAnswered}
use Rattle.dcc_client.specs.Words as client
use Rattle.dcc_client.specs.declared.call.Call.{Call}
use Rattle.dcc_client.specs.declared.call.Call.TheVariants.{Account, Ledger, TopUp}
use Rattle.dcc_client.specs.declared.finding.Answer.{Answer}
use Rattle.dcc_client.specs.declared.finding.Finding.{Finding}
use Rattle.dcc_client.specs.declared.finding.Finding.TheVariants as found
use Rattle.dcc_client.specs.declared.finding.Told.{Told}
use Rattle.dcc_operator.specs.Ledgers.{balance_text, unknown_line}

-- the subscriber of a call
abbrev pub sub_of : Call → SubView
sub_of (Account sub) = sub
sub_of (Ledger sub) = sub
sub_of (TopUp sub ticket amount) = sub

-- the line of a top-up's answer
abbrev pub word_line : Told → List ℕ
word_line told = client.word_of told ++ 10 ∷ []

-- the text that is printed for a finding and a body
abbrev pub text_of : Call → Finding → (body : List ℕ) → List ℕ
text_of call (found.Told told) body = word_line told
text_of call (found.Account money) body = balance_text money.funds money.reserved money.free money.overrun
text_of call found.Ledger body = body
text_of call found.Unknown body = unknown_line (sub_of call)

-- a writer has grown by the text of the answer with which the octets of a server begin
abbrev pub IsCalled : Call → (octets : List ℕ) → (old new : Option (List ℕ)) → Type 0
IsCalled call octets old new =
    (answer : Answer) × IsAnswered call octets answer × Appends old new (text_of call answer.finding answer.body.items)
