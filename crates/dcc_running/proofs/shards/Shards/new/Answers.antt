use Rattle.std.proofs.Common.{List, length, sym, ap, ◌∙◌, arith}
use Rattle.dcc_act.specs.declared.act.Act.{Act}
use Rattle.dcc_running.proofs.Begun.{opened_at}
use Rattle.dcc_running.proofs.Places.{so_many}
use Rattle.dcc_running.proofs.shards.Shards.new.Goals as goal

pub warded-wards-requires-clause-begun : goal.warded-wards-requires-clause-begun
warded-wards-requires-clause-begun g c =
    opened_at g.J.Naming.opening c.own_sides-sides.result.items c.args.shards.items
    (omega (arith, c.own_sides-sides.ensures.count, c.own_sides-sides.result.ok.0, c.args.shards.ok.0)) c.own_sides-sides.ensures.own c.own_sides-sides.ensures.untold c.requires.opening

pub invariant_of-result : goal.invariant_of-result
invariant_of-result g c =
    let made = c.locked-locks.ensures in
    let ward = c.warded-wards.ensures in (
      omega (arith, c.requires.some, made.count, ward.count, c.args.shards.ok.0),
      omega (arith, c.requires.most, made.count, ward.count, c.args.shards.ok.0),
      made.emptied,
      omega (arith, made.count, made.room),
      ward.emptied,
      omega (arith, made.count, ward.count, ward.room),
      so_many _ _ c.locked-locks.result.0.items made.count made.places,
      λ sub. rw c.deref.ensures.value at (c.in-Ok.ensures.numbers sub) ∙ ap (λ (l : List Act). length l) (sym (c.requires.opening sub)),
      ward.no_sides,
      omega (arith, made.count, ward.count, ward.room_for_sides),
    )
