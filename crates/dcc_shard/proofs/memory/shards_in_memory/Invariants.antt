use Rattle.std.proofs.Common.{◌≡◌, ◌≤◌, length, vec_capacity}
use Rattle.dcc_shard.proofs.Beginnings.{AreEmpty}
use Rattle.dcc_shard.proofs.memory.shards_in_memory.Given as goal

abbrev pub invariant-loop : goal.invariant-loop
invariant-loop l = record {
  many : length l.shards.items ≡ l.counter;
  room : l.count ≤ vec_capacity l.shards;
  within : l.counter ≤ l.count;
  empty : AreEmpty l.terms l.identity l.shards.items;
}
