use Rattle.std.proofs.Common.{◌≡◌, ◌≤◌, length, map, take, vec_len, vec_capacity}
use Rattle.dcc_running.specs.inner.Batches.{call_of}
use Rattle.dcc_running.proofs.batches.calls_of.Given as goal

abbrev pub invariant-loop-job : goal.invariant-loop-job
invariant-loop-job l = record {
  calls : l.calls.items ≡ map call_of (take l.job-index l.jobs);
  count : vec_len l.calls ≡ l.job-index;
  room : length l.jobs ≤ vec_capacity l.calls;
}
