use Rattle.std.proofs.Common.{[], inr, refl}
use Rattle.dcc_act.specs.TopUps.{is_amount}
use Rattle.dcc_running.proofs.TopUps.{none_made, some_made}
use Rattle.dcc_running.proofs.shards.Shards.top_up.Goals as goal

pub returns-in-None-clause-answer : goal.returns-in-None-clause-answer
returns-in-None-clause-answer g c = (
  record { terms = c.args.self.now.terms; identity = c.args.self.now.identity; rows = [] },
  rw (none_made (is_amount c.args.amount) (record { ticket = c.args.ticket; amount = c.args.amount }) c.in-None.ensures) refl,
)

pub returns-in_default-clause-answer : goal.returns-in_default-clause-answer
returns-in_default-clause-answer g c = (
  record { terms = c.args.self.now.terms; identity = c.args.self.now.identity; rows = [] },
  rw (some_made (is_amount c.args.amount) (record { ticket = c.args.ticket; amount = c.args.amount }) c.in-Some.top_up c.in-Some.ensures) (inr refl),
)
