use Rattle.std.proofs.Common.{ap, sym}
use Rattle.dcc_shard.specs.inner.Pending.{step_of}
use Rattle.dcc_shard.proofs.pending.Pending.step.Goals as goal

pub returns-in-Known : goal.returns-in-Known
returns-in-Known c = sym (ap step_of c.in-Known.is)

pub returns-in-First : goal.returns-in-First
returns-in-First c = sym (ap step_of c.in-First.is)
