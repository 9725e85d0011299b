use Rattle.std.proofs.Common.{ℕ, ◌<◌, ◌≤◌, get_or}
use Rattle.dcc_act.specs.declared.sub.Sub.{Sub}
use Rattle.dcc_receipts.specs.Audit.{own, times}
use Rattle.dcc_running.specs.declared.lock.Side.{Side}
use Rattle.dcc_running.proofs.books.Books.told_are_true.Given as goal

abbrev pub invariant-loop-side : goal.invariant-loop-side
invariant-loop-side g l = (i : ℕ) (none : Side) → i < l.side-index → (sub : Sub) (place : ℕ) → times place (own sub (get_or l.side-items i none).told.receipts) ≤ 1
