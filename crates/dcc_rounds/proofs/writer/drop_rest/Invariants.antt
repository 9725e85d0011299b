use Rattle.std.proofs.Common.{◌≡◌, ◌≤◌}
use Rattle.dcc_lane.specs.Ends.{IsSameReceiver, senders_of, taken_of}
use Rattle.dcc_rounds.specs.Writing.{TakesRest}
use Rattle.dcc_rounds.proofs.writer.drop_rest.Given as goal

abbrev pub invariant-loop : goal.invariant-loop
invariant-loop g l = record {
  same : IsSameReceiver l.fn.from l.from;
  few : l.ended ≤ l.senders;
  all : l.senders ≡ senders_of l.fn.from;
  rest : TakesRest l.fn.ended l.ended (taken_of l.fn.from) (taken_of l.from);
}
