use Rattle.std.proofs.Common.{◌≡◌, ◌*◌, take, sum_by, pos, ◌≤ℤ◌}
use Rattle.dcc_model.specs.Money.{held_price}
use Rattle.dcc_model.proofs.money.reserved.Given as goal

abbrev pub invariant-loop-holding : goal.invariant-loop-holding
invariant-loop-holding l = record {
  sum : l.reserved ≡ pos (sum_by held_price (take l.holding-index l.held));
  high : l.reserved ≤ℤ pos (1_000_000_000_000_000_000 * l.holding-index);
}
