use Rattle.std.proofs.Common.{◌≡◌, ◌≤◌, ◌+◌, ◌++◌, length, vec_capacity}
use Rattle.dcc_store.specs.inner.Rows.{pages_of}
use Rattle.dcc_store.proofs.row.pages.Given as goal

abbrev pub invariant-loop-sub : goal.invariant-loop-sub
invariant-loop-sub l = (l.pages.items ++ pages_of l.sub-iterator ≡ pages_of l.rows.entries) × (length l.pages.items + length l.sub-iterator ≤ vec_capacity l.pages)
