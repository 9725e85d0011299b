use Rattle.std.proofs.Common.{arith}
use Rattle.dcc_running.proofs.books.Books.of.Goals as goal

pub invariant_of-result : goal.invariant_of-result
invariant_of-result g c =
    let out = c.unlocked-locks.ensures in
    let part = c.parted-wards.ensures in
    let was = c.shards.invariant in (
      omega (arith, was.0, out.count, part.count),
      omega (arith, was.1, out.count, part.count),
      out.emptied,
      omega (arith, out.count, out.room, part.count),
      part.emptied,
      omega (arith, part.count, part.room),
      was.7,
      omega (arith, part.count, part.each),
      part.begun,
    )
