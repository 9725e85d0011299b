use Rattle.std.proofs.lemmas.Result.{err_from_is_err_and}
use Rattle.dcc_act_codec.specs.inner.Readers.{many_in}
use Rattle.dcc_act_codec.specs.inner.Reading.{service_in}
use Rattle.dcc_act_codec.proofs.Loop.{goes_on, ends, is_done}
use Rattle.dcc_act_codec.proofs.reading.many_services.Goals as goal

pub returns-in_err-service : goal.returns-in_err-service
returns-in_err-service c =
    let p = err_from_is_err_and c.from_residual-in_err-service.result c.from_residual-in_err-service.ensures.1 in
    rw (p.1, p.2) (ends service_in c.in_err-service.field-0.0 c.loop.services.items c.args.count c.loop.counter c.loop.rest.now (many_in service_in c.args.count c.args.octets.now) c.loop-test.true c.in_err-service.ensures c.loop.invariant)

pub loop-preserved : goal.loop-preserved
loop-preserved c =
    rw c.in_ok-push.ensures.items (goes_on service_in c.loop.services.items c.args.count c.loop.counter c.loop.rest.now c.in_ok-service.service c.in_ok-service.behind.now (many_in service_in c.args.count c.args.octets.now) c.loop-test.true c.in_ok-service.ensures c.loop.invariant)

pub returns : goal.returns
returns c = is_done service_in c.loop.services.items c.args.count c.loop.counter c.loop.rest.now (many_in service_in c.args.count c.args.octets.now) c.loop-test.false c.loop.invariant
