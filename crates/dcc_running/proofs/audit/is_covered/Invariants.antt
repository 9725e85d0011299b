use Rattle.std.proofs.Common.{◌<◌, ◌≤◌, ℕ, length}
use Rattle.dcc_running.specs.inner.Marked.{IsCovered}
use Rattle.dcc_running.proofs.audit.is_covered.Given as goal

abbrev pub invariant-loop-before : goal.invariant-loop-before
invariant-loop-before g l = (place : ℕ) → length (g.J.Naming.opening l.sub) < place → place ≤ l.before → IsCovered l.marks l.books.sides l.sub place
