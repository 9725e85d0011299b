use Rattle.std.proofs.Common.{◌∙◌, arith}
use Rattle.dcc_message.proofs.Fields.{found_of, only_of}
use Rattle.dcc_message.proofs.header.read_header.Goals as goal

pub returns-clause-found : goal.returns-clause-found
returns-clause-found c = rw c.judged.ensures (found_of c.args.octets.now (λ i. omega (arith, c.type_inv.octets i)))

pub returns-clause-only : goal.returns-clause-only
returns-clause-only c = λ h rest fits e exact. c.judged.ensures ∙ only_of c.args.octets.now h rest fits e exact
