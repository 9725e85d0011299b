use Rattle.std.proofs.Common.{[], inr}
use Rattle.dcc_running.proofs.shards.Shards.submit.Goals as goal

pub returns-in_default-clause-answer : goal.returns-in_default-clause-answer
returns-in_default-clause-answer g c = (record { terms = c.self.inside.terms; identity = c.self.inside.identity; rows = [] }, inr c.busy-answer.ensures.refused)
