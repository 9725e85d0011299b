use Rattle.std.proofs.Common.{◌≡◌, ◌+◌, ◌≤◌, vec_len, vec_capacity}
use Rattle.dcc_running.specs.inner.Locks.{AreOf}
use Rattle.dcc_running.proofs.shards.locked.Given as goal

abbrev pub invariant-loop-locks : goal.invariant-loop-locks
invariant-loop-locks g l = record {
  count : vec_len l.locks + vec_len l.wards ≡ vec_len l.fn.wards;
  room : vec_len l.fn.wards ≤ vec_capacity l.locks;
  back : vec_len l.fn.wards ≤ vec_capacity l.wards;
  places : AreOf (vec_len l.fn.wards) l.locks.items;
}

abbrev pub decreases-loop-locks : goal.decreases-loop-locks
decreases-loop-locks g l = vec_len l.wards
