use Rattle.std.proofs.Common.{◌≡◌, ◌≤◌, ◌+◌, ◌++◌, true, map, reverse, vec_len, vec_capacity}
use Rattle.std.specs.List.{list_all}
use Rattle.dcc_running.specs.Batches.{has_request}
use Rattle.dcc_rounds.specs.inner.Batches.{gate_of, job_of}
use Rattle.dcc_rounds.proofs.batch.parted.Given as goal

abbrev pub invariant-loop-request : goal.invariant-loop-request
invariant-loop-request l = record {
  gates : map gate_of l.batch.items ++ reverse l.gates.items ≡ map gate_of l.fn.batch.items;
  jobs : map job_of l.batch.items ++ reverse l.jobs.items ≡ map job_of l.fn.batch.items;
  requests : list_all has_request (reverse l.jobs.items) ≡ true;
  gates_room : vec_len l.gates + vec_len l.batch ≤ vec_capacity l.gates;
  jobs_room : vec_len l.jobs + vec_len l.batch ≤ vec_capacity l.jobs;
}

abbrev pub decreases-loop-request : goal.decreases-loop-request
decreases-loop-request l = vec_len l.batch
