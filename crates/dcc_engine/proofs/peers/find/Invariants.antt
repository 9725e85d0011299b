use Rattle.dcc_engine.proofs.Places.{NoneBefore}
use Rattle.dcc_engine.proofs.peers.find.Given as goal

abbrev pub invariant-loop-i : goal.invariant-loop-i
invariant-loop-i l = NoneBefore l.rows l.id l.i
