use Rattle.std.proofs.Common.{◌≡◌, ◌≤◌, length, take, vec_capacity}
use Rattle.dcc_store.proofs.row.Row.acts.Given as goal

abbrev pub invariant-loop-act : goal.invariant-loop-act
invariant-loop-act l = (l.acts.items ≡ take l.act-index l.act-items) × (length l.act-items ≤ vec_capacity l.acts)
