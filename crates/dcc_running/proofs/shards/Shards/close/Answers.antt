use Rattle.dcc_running.proofs.shards.Shards.close.Goals as goal

pub returns-in-Ok-clause-audited : goal.returns-in-Ok-clause-audited
returns-in-Ok-clause-audited g c = let audited = c.in-Ok.ensures.ok in rw c.deref.ensures.value at audited

pub returns-in-Err-clause-fault : goal.returns-in-Err-clause-fault
returns-in-Err-clause-fault g c = let fault = c.in-Err.ensures.fault in rw c.deref.ensures.value at fault
