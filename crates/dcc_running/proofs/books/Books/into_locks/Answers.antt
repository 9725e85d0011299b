use Rattle.std.proofs.Common.{arith}
use Rattle.dcc_running.proofs.Places.{so_many}
use Rattle.dcc_running.proofs.books.Books.into_locks.Goals as goal

pub invariant_of-result : goal.invariant_of-result
invariant_of-result g c =
    let made = c.locked-locks.ensures in
    let ward = c.warded-wards.ensures in
    let was = c.self.invariant in (
      omega (arith, was.0, made.count, ward.count),
      omega (arith, was.1, made.count, ward.count),
      made.emptied,
      omega (arith, made.count, made.room),
      ward.emptied,
      omega (arith, made.count, ward.count, ward.room),
      so_many _ _ c.locked-locks.result.0.items made.count made.places,
      was.6,
      ward.no_sides,
      omega (arith, made.count, ward.count, ward.room_for_sides),
    )
