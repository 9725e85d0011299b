use Rattle.std.proofs.Common.{if◌then◌else◌}
use Rattle.dcc_rounds.proofs.Taking.{taken_goes, taken_then}
use Rattle.dcc_rounds.proofs.worker.Worker.take_some.Goals as goal

pub returns-in-Some-clause-goes : goal.returns-in-Some-clause-goes
returns-in-Some-clause-goes g c =
    let done = c.do_one.ensures in
    taken_then g.J.Naming.opening c.args.self.now c.take_requests.new.self c.do_one.new.self c.args.rest.now c.do_one.new.rest c.in-Some.work (if c.do_one.result then 1 else 0)
    c.in-Some.ensures.taken c.requires.counted done.does done.calls done.counted done.over done.from done.lanes done.shard

pub returns-in-None-clause-goes : goal.returns-in-None-clause-goes
returns-in-None-clause-goes g c = taken_goes g.J.Naming.opening c.args.self.now c.take_requests.new.self c.args.rest.now c.in-None.ensures.taken c.requires.counted
