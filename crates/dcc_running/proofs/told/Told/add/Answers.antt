use Rattle.std.proofs.Common.{rules, ◌≡◌, ◌++◌, ◌∷◌, []}
use Rattle.dcc_running.specs.inner.Told.{numbers}
use Rattle.dcc_running.proofs.Tops.{as_many, numbers_more, tops_kept}
use Rattle.dcc_running.proofs.told.Told.add.Goals as goal

pub invariant_of-self-2 : goal.invariant_of-self-2
invariant_of-self-2 c =
    let seats : numbers c.push_reserved.new.self.items ≡ numbers c.self.inside.seats.items ++ c.args.seat ∷ [] =
    numbers_more c.self.inside.seats.items c.push_reserved.new.self.items c.of.result c.args.seat (search rules) (search rules) in
    let seen : c.add.new.self ≡ c.self.inside.seen ++ c.args.receipt.now ∷ [] = search rules in (
      rw (seats, seen) (as_many (numbers c.self.inside.seats.items) c.self.inside.seen c.args.seat c.args.receipt.now c.self.invariant.0),
      rw (seats, seen) (tops_kept c.same_subscribers_are_equal.ensures c.self.inside.tops.entries c.make_room.new.tops.entries c.set_top.new.tops.entries
          (numbers c.self.inside.seats.items) c.self.inside.seen c.args.seat c.args.receipt.now c.top-top.result c.self.invariant.0 c.requires.placed
          c.self.invariant.1 c.top-top.ensures (search rules) c.make_room.ensures.same c.set_top.ensures),
    )
