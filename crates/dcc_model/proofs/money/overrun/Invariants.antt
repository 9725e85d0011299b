use Rattle.std.proofs.Common.{◌≡◌, ◌*◌, reverse, take, pos, ◌≤ℤ◌}
use Rattle.dcc_model.specs.Money.{overrun_of}
use Rattle.dcc_model.proofs.money.overrun.Given as goal

abbrev pub invariant-loop-i : goal.invariant-loop-i
invariant-loop-i l = record {
  overrun : l.overrun ≡ pos (overrun_of l.terms (reverse (take l.i l.past)));
  high : l.overrun ≤ℤ pos (33_000_000_000_000_000_000 * l.i);
}
