use Rattle.std.proofs.Common.{◌≡◌, ◌+◌, ◌≤◌, vec_len, vec_capacity}
use Rattle.dcc_running.proofs.shards.unlocked.Given as goal

abbrev pub invariant-loop-wards : goal.invariant-loop-wards
invariant-loop-wards g l = record {
  count : vec_len l.locks + vec_len l.wards ≡ vec_len l.fn.locks;
  room : vec_len l.fn.locks ≤ vec_capacity l.wards;
  back : vec_len l.fn.locks ≤ vec_capacity l.locks;
}

abbrev pub decreases-loop-wards : goal.decreases-loop-wards
decreases-loop-wards g l = vec_len l.locks
