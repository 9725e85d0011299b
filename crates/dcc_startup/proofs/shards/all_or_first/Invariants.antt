use Rattle.std.proofs.Common.{◌≡◌, ◌≤◌, ◌+◌, ◌++◌, map, Ok, length, vec_capacity}
use Rattle.dcc_startup.proofs.shards.all_or_first.Given as goal

abbrev pub invariant-loop-opened : goal.invariant-loop-opened
invariant-loop-opened g l = record {
  taken : l.fn.opened.items ≡ map Ok l.shards.items ++ l.opened.items;
  room : length l.shards.items + length l.opened.items ≤ vec_capacity l.shards;
}

abbrev pub decreases-loop-opened : goal.decreases-loop-opened
decreases-loop-opened g l = length l.opened.items
