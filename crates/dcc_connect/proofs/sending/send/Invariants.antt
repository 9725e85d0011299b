use Rattle.std.proofs.Common.{◌≡◌, ◌≤◌, ◌+◌, ◌-◌, length, take}
use Rattle.std.specs.Io.KnownBytes.{Appends}
use Rattle.dcc_connect.proofs.sending.send.Given as goal

abbrev pub invariant-loop-at : goal.invariant-loop-at
invariant-loop-at g l = record {
  within : l.at ≤ length l.octets;
  out : Appends (g.O.Write.contents l.fn.output) (g.O.Write.contents l.output) (take l.at l.octets);
  written : l.tally.written ≡ l.fn.tally.written + l.at;
  fewer : l.tally.left ≤ l.fn.tally.left;
  turns : l.fn.tally.left ≤ l.tally.left + l.at;
}

abbrev pub decreases-loop-at : goal.decreases-loop-at
decreases-loop-at g l = length l.octets - l.at
