use Rattle.std.proofs.Common.{◌≡◌, ◌+◌, ◌*◌, ◌≤◌, length, take}
use Rattle.std.specs.Prelude.{sum}
use Rattle.dcc_shard.proofs.route.shard_of.Given as goal

abbrev pub invariant-loop-octet : goal.invariant-loop-octet
invariant-loop-octet l = record {
  sum_is : l.sum ≡ l.sub.kind + sum (take l.octet-index l.octet-items);
  small : l.sum ≤ 255 + 255 * l.octet-index;
  few : length l.octet-items ≤ 64;
}
