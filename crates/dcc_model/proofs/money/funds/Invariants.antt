use Rattle.std.proofs.Common.{◌≡◌, ◌*◌, reverse, take, pos, ◌+ℤ◌, ◌≤ℤ◌}
use Rattle.dcc_model.specs.Money.{funds_of}
use Rattle.dcc_model.proofs.money.funds.Given as goal

abbrev pub invariant-loop-i : goal.invariant-loop-i
invariant-loop-i l = record {
  funds : l.funds ≡ funds_of l.terms (reverse (take l.i l.past));
  low : pos 0 ≤ℤ (l.funds +ℤ pos (33_000_000_000_000_000_000 * l.i));
  high : l.funds ≤ℤ pos (33_000_000_000_000_000_000 * l.i);
}
