use Rattle.std.proofs.Common.{arith}
use Rattle.dcc_running.proofs.Settling.{settled_alike, settled_less}
use Rattle.dcc_running.proofs.ward.Ward.settle.Goals as goal

pub invariant_of-self : goal.invariant_of-self
invariant_of-self g c = (
  c.self.invariant.0,
  c.self.invariant.1,
  settled_alike g.J.Naming.opening c.self.inside.place c.self.inside.shard c.self.inside.touches c.take.new.self c.self.inside.told.receipts c.take.ensures c.self.invariant.2,
)

pub invariant_of-self-then-not-are_told : goal.invariant_of-self-then-not-are_told
invariant_of-self-then-not-are_told g c =
    rw c.are_told.ensures.same (
      c.self.invariant.0,
      c.self.invariant.1,
      settled_alike g.J.Naming.opening c.self.inside.place c.self.inside.shard c.self.inside.touches c.take.new.self c.self.inside.told.receipts c.take.ensures
          c.self.invariant.2,
    )

pub invariant_of-self-2 : goal.invariant_of-self-2
invariant_of-self-2 g c =
    let opening = g.J.Naming.opening in
    let place = c.self.inside.place in
    let shard = c.self.inside.shard in
    let told = c.self.inside.told.receipts in
    rw c.are_told.ensures.same (
      c.self.invariant.0,
      c.self.invariant.1,
      settled_less c.same_subscribers_are_equal.ensures opening place shard c.take.new.self c.remove.new.self told c.args.sub
          (λ at low high. c.are_told.ensures.yes c.if-not-are_told.false at (omega (arith, low, c.requires)) (omega (arith, high, c.number_in-count.ensures))) c.remove.ensures
          (settled_alike opening place shard c.self.inside.touches c.take.new.self told c.take.ensures c.self.invariant.2),
    )
