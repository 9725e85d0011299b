use Rattle.std.proofs.Common.{◌≡◌, ◌-◌, ℕ, ◌<◌, ◌≤◌, get_or, vec_len, vec_capacity}
use Rattle.dcc_running.specs.inner.Told.{none_told}
use Rattle.dcc_running.specs.declared.lock.Side.{Side}
use Rattle.dcc_running.proofs.shards.own_sides.Given as goal

abbrev pub invariant-loop-alloc : goal.invariant-loop-alloc
invariant-loop-alloc l = record {
  few : vec_len l.sides ≤ l.fn.count;
  room : l.fn.count ≤ vec_capacity l.sides;
  own : (i : ℕ) (none : Side) → i < vec_len l.sides → (get_or l.sides.items i none).place ≡ record { index = i; count = l.fn.count };
  untold : (i : ℕ) (none : Side) → i < vec_len l.sides → (get_or l.sides.items i none).told ≡ none_told;
}

abbrev pub decreases-loop-alloc : goal.decreases-loop-alloc
decreases-loop-alloc l = l.fn.count - vec_len l.sides
