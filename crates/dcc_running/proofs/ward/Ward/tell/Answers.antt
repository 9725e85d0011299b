use Rattle.std.proofs.Common.{rules, ◌≡◌, ◌++◌, ◌∷◌, [], true, ap}
use Rattle.dcc_running.specs.Audited.{is_true}
use Rattle.dcc_running.specs.Told.{ToldView}
use Rattle.dcc_shard.specs.Shards.{held}
use Rattle.dcc_running.proofs.Settling.{settled_more, told_more}
use Rattle.dcc_running.proofs.ward.Ward.tell.Goals as goal

pub invariant_of-self : goal.invariant_of-self
invariant_of-self g c =
    rw c.in_err-add.ensures.same (c.self.invariant.0, c.self.invariant.1, c.self.invariant.2)

pub invariant_of-self-2 : goal.invariant_of-self-2
invariant_of-self-2 g c =
    let is : is_true c.self.inside.shard.shard.identity c.self.inside.shard.shard.terms g.J.Naming.opening (held c.self.inside.shard.shard) c.args.receipt.now ≡ true =
    search rules in
    let one_more : c.add.new.self.receipts ≡ c.self.inside.told.receipts ++ c.args.receipt.now ∷ [] = ap (λ (t : ToldView). t.receipts) c.in_ok-add.ensures.added in (
      c.self.invariant.0,
      told_more (is_true c.self.inside.shard.shard.identity c.self.inside.shard.shard.terms g.J.Naming.opening (held c.self.inside.shard.shard))
          c.self.inside.told.receipts c.add.new.self.receipts c.args.receipt.now one_more c.self.invariant.1 is,
      settled_more g.J.Naming.opening c.self.inside.place c.self.inside.shard c.self.inside.touches c.self.inside.told.receipts c.add.new.self.receipts c.args.receipt.now
          one_more c.are_once.ensures c.self.invariant.2,
    )
