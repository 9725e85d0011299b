use Rattle.dcc_running.proofs.Settling.{settled_grown}
use Rattle.dcc_running.proofs.ward.Ward.touch.Goals as goal

pub invariant_of-self : goal.invariant_of-self
invariant_of-self g c = (
  c.self.invariant.0,
  c.self.invariant.1,
  settled_grown g.J.Naming.opening c.self.inside.place c.self.inside.shard c.self.inside.touches c.add.new.self c.self.inside.told.receipts c.add.ensures.kept c.self.invariant.2,
)
