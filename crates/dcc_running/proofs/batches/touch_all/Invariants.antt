use Rattle.std.proofs.Common.{◌≡◌, ◌≤◌, ◌+◌, true, length, map, take, vec_len, vec_capacity}
use Rattle.dcc_act.specs.declared.sub.Sub.{Sub}
use Rattle.dcc_shard.specs.Batches.{sub_of}
use Rattle.dcc_shard.specs.Shards.{is_among}
use Rattle.dcc_running.specs.inner.Touches.{is_touched}
use Rattle.dcc_running.proofs.batches.touch_all.Given as goal

abbrev pub invariant-loop-call : goal.invariant-loop-call
invariant-loop-call g l = record {
  touched : (sub : Sub) → is_among sub (map sub_of (take l.call-index l.calls)) ≡ true → is_touched l.shard.touches sub ≡ true;
  room : vec_len l.touched + length l.calls ≤ vec_capacity l.touched + l.call-index;
  shard : l.shard.shard ≡ l.fn.shard.shard;
  records : l.shard.records ≡ l.fn.shard.records;
}
