use Rattle.std.proofs.lemmas.Result.{err_from_is_err_and}
use Rattle.std.specs.Int.{w32}
use Rattle.dcc_act_codec.specs.inner.Readers.{number_in, many_in}
use Rattle.dcc_act_codec.proofs.Loop.{goes_on, ends, is_done}
use Rattle.dcc_act_codec.proofs.reading.many_ids.Goals as goal

pub returns-in_err-id : goal.returns-in_err-id
returns-in_err-id c =
    let p = err_from_is_err_and c.from_residual.result c.from_residual.ensures.1 in
    rw (p.1, p.2) (ends (number_in w32) c.in_err-id.field-0.0 c.loop.ids.items c.args.count c.loop.counter c.loop.rest.now (many_in (number_in w32) c.args.count c.args.octets.now) c.loop-test.true c.in_err-id.ensures c.loop.invariant)

pub loop-preserved : goal.loop-preserved
loop-preserved c =
    rw c.in_ok-push.ensures.items (goes_on (number_in w32) c.loop.ids.items c.args.count c.loop.counter c.loop.rest.now c.in_ok-id.id c.in_ok-id.behind.now (many_in (number_in w32) c.args.count c.args.octets.now) c.loop-test.true c.in_ok-id.ensures c.loop.invariant)

pub returns : goal.returns
returns c = is_done (number_in w32) c.loop.ids.items c.args.count c.loop.counter c.loop.rest.now (many_in (number_in w32) c.args.count c.args.octets.now) c.loop-test.false c.loop.invariant
