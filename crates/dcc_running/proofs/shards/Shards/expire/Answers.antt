use Rattle.std.proofs.Common.{[], inr, refl}
use Rattle.dcc_running.proofs.shards.Shards.expire.Goals as goal

pub returns-in_default-clause-answer : goal.returns-in_default-clause-answer
returns-in_default-clause-answer g c = (record { terms = c.args.self.now.terms; identity = c.args.self.now.identity; rows = [] }, inr refl)
