use Rattle.std.proofs.Common.{◌≡◌, ◌++◌, length}
use Rattle.dcc_message.specs.inner.Frames.{joined, AreMessages}
use Rattle.dcc_message.proofs.framer.cut_up.Given as goal

abbrev pub invariant-loop-left : goal.invariant-loop-left
invariant-loop-left l = record {
  messages : AreMessages l.ready.items;
  all : l.octets ≡ joined l.ready.items ++ l.left;
}

abbrev pub decreases-loop-left : goal.decreases-loop-left
decreases-loop-left l = length l.left
