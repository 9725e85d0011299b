use Rattle.dcc_store.proofs.records.Records.append.Goals as goal

pub returns-clause-stored : goal.returns-clause-stored
returns-clause-stored g c = λ held only. rw (c.new.ensures) at (c.append_all.ensures.stored held only)

pub returns-clause-crash : goal.returns-clause-crash
returns-clause-crash g c = λ held only. rw (c.new.ensures) at (c.append_all.ensures.crash held only)
