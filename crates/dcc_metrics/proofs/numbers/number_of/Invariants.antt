use Rattle.std.proofs.Common.{◌≡◌, ◌+◌, ◌-◌, ◌*◌, ◌≤◌, ◌^◌}
use Rattle.dcc_metrics.specs.Messages.{number_from}
use Rattle.dcc_metrics.proofs.numbers.number_of.Given as goal

abbrev pub invariant-loop-passed : goal.invariant-loop-passed
invariant-loop-passed l = record {
  found : number_from l.code (32 - l._passed) l.message l.at ≡ number_from l.code 32 l.message 20;
  near : l.at ≤ 20 + l._passed * 2 ^ 25;
}
