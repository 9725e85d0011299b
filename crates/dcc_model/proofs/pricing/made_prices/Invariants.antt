use Rattle.std.proofs.Common.{◌≡◌, ◌*◌, take, sum_by, pos, ◌≤ℤ◌}
use Rattle.dcc_model.specs.Money.{made_price}
use Rattle.dcc_model.proofs.pricing.made_prices.Given as goal

abbrev pub invariant-loop-answer : goal.invariant-loop-answer
invariant-loop-answer l = record {
  sum : l.sum ≡ pos (sum_by made_price (take l.answer-index l.answers));
  bound : l.sum ≤ℤ pos (1_000_000_000_000_000_000 * l.answer-index);
}
