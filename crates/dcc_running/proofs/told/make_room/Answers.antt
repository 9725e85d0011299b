use Rattle.dcc_running.proofs.told.make_room.Goals as goal

pub returns-clause-same : goal.returns-clause-same
returns-clause-same c = λ seat sub. c.reserve.ensures.entries.2 (seat, sub)
