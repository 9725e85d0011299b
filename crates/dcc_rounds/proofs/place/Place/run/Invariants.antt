use Rattle.std.proofs.Common.{List}
use Rattle.dcc_rounds.specs.Visiting.{Visit}
use Rattle.dcc_rounds.proofs.Placing.{SoFar}
use Rattle.dcc_rounds.proofs.place.Place.run.Given as goal

abbrev pub invariant-loop : goal.invariant-loop
invariant-loop g l =
    (visits : List (Visit g.row.I.Denot g.row.O.Denot))
    × SoFar g.I.Read.remaining g.O.Write.contents g.C.Clock.tells g.L.Listener.is_closed l.shared.clock.now
    (record { plan = l.shared.plan.now; identity = l.shared.identity.now }) l.shared.count l.fn.self visits l.self
