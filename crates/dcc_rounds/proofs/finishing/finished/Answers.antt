use Rattle.dcc_rounds.proofs.LaneEnds.{all_finished, answered_tied, asked_tied}
use Rattle.dcc_rounds.proofs.finishing.finished.Goals as goal

pub finish_all-requires : goal.finish_all-requires
finish_all-requires g c = asked_tied c.args.tasks.items _ c.in_ok-seats.ensures c.requires

pub finish_all-requires-2 : goal.finish_all-requires-2
finish_all-requires-2 g c = answered_tied c.args.tasks.items _ c.insert.new.self.items c.in_ok-seats.ensures c.requires c.in-Ok-insert.ensures.items

pub returns-in-Ok-finish_all-clause-finished : goal.returns-in-Ok-finish_all-clause-finished
returns-in-Ok-finish_all-clause-finished g c =
    all_finished c.args.tasks.items _ c.insert.new.self.items c.in_ok-seats.ensures c.in-Ok-insert.ensures.items c.in-Ok.ensures.heard c.in-Ok-finish_all.ensures.heard
