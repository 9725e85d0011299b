use Rattle.std.proofs.Common.{take}
use Rattle.dcc_streams.proofs.WritingLemmas.{more, kept}
use Rattle.dcc_streams.proofs.writing.taken.Goals.{in-Ok, in-Err+else-ne}
use Rattle.dcc_streams.proofs.writing.taken.Goals as goal

pub loop-preserved : goal.loop-preserved
loop-preserved g c = elim c.match-write.branch [
  | in-Ok w ↦ more _ _ _ c.args.text.now c.loop.written w.in-Ok.n c.match-write.written w.written-is c.loop.invariant.0
      w.in-Ok.ensures.bound c.loop.invariant.1 w.in-Ok.ensures.bytes
  | in-Err+else-ne w ↦ rw w.written-is (c.loop.invariant.0, kept _ _ _ (take c.loop.written c.args.text.now) c.loop.invariant.1 w.in-Err.ensures.bytes)
]
