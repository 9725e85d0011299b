use Rattle.std.proofs.Common.{List, length, get_or, arith, sym, ap, subst, ◌∙◌}
use Rattle.dcc_shard.specs.Openers.{IsFound}
use Rattle.dcc_shard.specs.Routes.{ShardsView}
use Rattle.dcc_shard.specs.Stored.{StoredView}
use Rattle.dcc_shard.proofs.Finding.{opened_before, no_shard_yet, one_shard_more, all_shards}
use Rattle.dcc_shard.proofs.shards.Shards.find.Goals as goal

pub loop-shard-init : goal.loop-shard-init
loop-shard-init g c = rw (← c.self.view_is) (no_shard_yet c.self.inside.terms c.self.inside.identity c.self.inside.shards.items c.args.host.now c.args.sid.now)

pub loop-shard-preserved : goal.loop-shard-preserved
loop-shard-preserved g c =
    let i = c.loop-shard.shard-index in
    let P = λ (v : ShardsView g.row.R.Denot). IsFound (opened_before v.shard v.parts i c.args.host.now c.args.sid.now) c.loop-shard.found in
    let before = subst P (sym c.self.view_is) c.loop-shard.invariant in
    let many = ap length c.deref-shard-items.ensures.value in
    let at = c.shard-item.is ∙ ap (λ (items : List (StoredView g.row.R.Denot)). get_or items i c.shard-item.result) c.deref-shard-items.ensures.value in
    rw (← c.self.view_is, c.join-found.ensures) (one_shard_more c.same_subscribers_are_equal.ensures c.self.inside.terms c.self.inside.identity c.self.inside.shards.items i c.shard-item.result
    c.args.host.now c.args.sid.now c.loop-shard.found c.find.result c.self.invariant (omega (arith, many, c.loop-shard-test.true)) at before c.find.ensures)

pub returns : goal.returns
returns g c =
    let i = c.loop-shard.shard-index in
    let P = λ (v : ShardsView g.row.R.Denot). IsFound (opened_before v.shard v.parts i c.args.host.now c.args.sid.now) c.loop-shard.found in
    let before = subst P (sym c.self.view_is) c.loop-shard.invariant in
    let many = ap length c.deref-shard-items.ensures.value in
    rw (← c.self.view_is) (all_shards c.self.inside.terms c.self.inside.identity c.self.inside.shards.items i c.args.host.now c.args.sid.now c.loop-shard.found c.self.invariant
    (omega (arith, many, c.loop-shard-test.false)) before)
