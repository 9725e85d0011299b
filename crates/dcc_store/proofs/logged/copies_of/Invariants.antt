use Rattle.std.proofs.Common.{◌≡◌, ◌≤◌, length, take, vec_capacity}
use Rattle.dcc_store.proofs.logged.copies_of.Given as goal

abbrev pub invariant-loop-one : goal.invariant-loop-one
invariant-loop-one l = (l.copies.items ≡ take l.one-index l.batch) × (length l.batch ≤ vec_capacity l.copies)
