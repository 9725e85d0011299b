use Rattle.std.proofs.Common.{◌≡◌, ◌≤◌, length, take, vec_capacity}
use Rattle.dcc_store.proofs.logged.copied.Given as goal

abbrev pub invariant-loop-entry : goal.invariant-loop-entry
invariant-loop-entry l = (l.copies.items ≡ take l.entry-index l.entries) × (length l.entries ≤ vec_capacity l.copies)
