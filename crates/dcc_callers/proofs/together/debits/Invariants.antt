use Rattle.std.proofs.Common.{◌≡◌, ◌≤◌, true, length, map, take, vec_len, vec_capacity}
use Rattle.std.specs.List.{list_all}
use Rattle.dcc_running.specs.Batches.{has_request, sub_of_job}
use Rattle.dcc_callers.proofs.together.debits.Given as goal

abbrev pub invariant-loop-sub : goal.invariant-loop-sub
invariant-loop-sub l = record {
  subs : map sub_of_job l.jobs.items ≡ take l.sub-index l.subs;
  requests : list_all has_request l.jobs.items ≡ true;
  count : vec_len l.jobs ≡ l.sub-index;
  room : length l.subs ≤ vec_capacity l.jobs;
}
