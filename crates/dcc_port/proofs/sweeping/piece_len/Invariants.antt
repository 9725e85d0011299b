use Rattle.std.proofs.Common.{length, ◌-◌, ◌≤◌, ◌<◌}
use Rattle.dcc_port.specs.declared.sweeping.TheConstants.{MOST_AT_ONCE}
use Rattle.dcc_port.proofs.sweeping.piece_len.Given as goal

abbrev pub invariant-loop-len : goal.invariant-loop-len
invariant-loop-len g l = record {
  some : 0 < l.len;
  few : l.len ≤ MOST_AT_ONCE;
  within : l.len ≤ length l.subs;
}

abbrev pub decreases-loop-len : goal.decreases-loop-len
decreases-loop-len g l = length l.subs - l.len
