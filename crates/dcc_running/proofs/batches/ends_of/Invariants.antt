use Rattle.std.proofs.Common.{◌≡◌, ◌≤◌, length, map, take, vec_len, vec_capacity}
use Rattle.dcc_running.specs.inner.Batches.{end_of}
use Rattle.dcc_running.proofs.batches.ends_of.Given as goal

abbrev pub invariant-loop-sub : goal.invariant-loop-sub
invariant-loop-sub l = record {
  calls : l.calls.items ≡ map (end_of l.moment) (take l.sub-index l.subs);
  count : vec_len l.calls ≡ l.sub-index;
  room : length l.subs ≤ vec_capacity l.calls;
}
