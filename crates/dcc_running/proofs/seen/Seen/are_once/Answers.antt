use Rattle.dcc_running.proofs.Telling.{marked_once}
use Rattle.dcc_running.proofs.seen.Seen.are_once.Goals as goal

pub returns : goal.returns
returns c = λ sub place. rw (← c.self.view_is) (marked_once _ _ (c.self.invariant.0 sub place))
