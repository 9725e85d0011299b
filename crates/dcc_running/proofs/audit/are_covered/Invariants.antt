use Rattle.std.proofs.Common.{◌<◌, ◌≤◌, ℕ, length}
use Rattle.dcc_act.specs.declared.sub.Sub.{Sub}
use Rattle.dcc_running.specs.inner.Marked.{IsCovered}
use Rattle.dcc_shard.specs.Routes.{shard_of}
use Rattle.dcc_running.specs.Books.{book}
use Rattle.dcc_running.proofs.audit.are_covered.Given as goal

abbrev pub invariant-loop-i : goal.invariant-loop-i
invariant-loop-i g l = (sub : Sub) (place : ℕ) → shard_of sub (length l.books.parts) < l.i → length (g.J.Naming.opening sub) < place
    → place ≤ length (book l.books.parts sub) → IsCovered l.marks l.books.sides sub place
