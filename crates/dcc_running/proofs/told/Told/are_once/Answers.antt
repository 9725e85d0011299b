use Rattle.dcc_running.proofs.told.Told.are_once.Goals as goal

pub returns : goal.returns
returns c = λ sub place. rw (← c.self.view_is) (c.are_once.ensures sub place)
