use Rattle.std.proofs.Common.{List, rules, subst, sym}
use Rattle.dcc_store.specs.Memory.{MemoryView}
use Rattle.dcc_shard.specs.Shards.{held}
use Rattle.dcc_shard.specs.Stored.{StoredView}
use Rattle.dcc_shard.proofs.Beginnings.{AreEmpty, with_empty, nothing_held}
use Rattle.dcc_shard.proofs.memory.shards_in_memory.Goals as goal

pub loop-preserved : goal.loop-preserved
loop-preserved c =
    let e = c.in-Ok.ensures in
    let more = with_empty c.args.terms.now c.args.identity c.loop.shards.items c.in-Ok.shard c.loop.invariant.empty (record { terms_are = e.terms; identity_is = e.identity; nothing = e.nothing }) in
    let P = λ (shards : List (StoredView MemoryView)). AreEmpty c.args.terms.now c.args.identity shards in
    record { many = search rules; room = search rules; within = search rules; empty = subst P (sym c.push_reserved.ensures.items) more }

pub returns-clause-nothing : goal.returns-clause-nothing
returns-clause-nothing c =
    nothing_held c.args.terms.now c.args.identity c.loop.shards.items (held c.new.result.shard) (search rules) c.loop.invariant.empty c.new.ensures.held
