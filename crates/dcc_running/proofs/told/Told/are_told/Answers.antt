use Rattle.dcc_running.proofs.told.Told.are_told.Goals as goal

pub returns-clause-yes : goal.returns-clause-yes
returns-clause-yes c = λ all place low high. rw (← c.self.view_is) (c.are_told.ensures.yes all place low high)
