use Rattle.std.proofs.Common.{length}
use Rattle.dcc_decode.specs.Lines.{lines_of}
use Rattle.dcc_decode.proofs.ShownLemmas.{IsSoFar}
use Rattle.dcc_decode.proofs.decoding.decode_text.Given as goal

abbrev pub invariant-loop-rest : goal.invariant-loop-rest
invariant-loop-rest l = IsSoFar (lines_of l.text) (lines_of l.rest) l.written.items

abbrev pub decreases-loop-rest : goal.decreases-loop-rest
decreases-loop-rest l = length l.rest
