use Rattle.std.proofs.Common.{take}
use Rattle.dcc_lane.specs.Ends.{HasNoneOf}
use Rattle.dcc_lane.proofs.search.put_by.Given as goal

abbrev pub invariant-loop-sender : goal.invariant-loop-sender
invariant-loop-sender g l = HasNoneOf l.number (take l.sender-index l.senders)
