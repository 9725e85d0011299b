use Rattle.std.proofs.Common.{◌≡◌, take}
use Rattle.dcc_running.specs.Books.{acts_told}
use Rattle.dcc_running.proofs.books.acts_in.Given as goal

abbrev pub invariant-loop-side : goal.invariant-loop-side
invariant-loop-side l = l.count ≡ acts_told (take l.side-index l.sides)
