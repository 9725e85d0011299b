use Rattle.dcc_client.specs.inner.Reading.{Leads}
use Rattle.dcc_client.proofs.reply.body_of.Given as goal

abbrev pub invariant-loop-turn : goal.invariant-loop-turn
invariant-loop-turn l = Leads l.fn.client l.client l.octets l.left l.body.items
