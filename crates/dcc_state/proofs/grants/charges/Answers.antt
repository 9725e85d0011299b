use Rattle.std.proofs.Common.{ap, arith}
use Rattle.std.proofs.lemmas.Int.{ints}
use Rattle.std.proofs.lemmas.List.Sums.{sum_by_more}
use Rattle.dcc_session.specs.Grants.{cost_in}
use Rattle.dcc_state.proofs.grants.charges.Goals as goal

pub loop-service-preserved : goal.loop-service-preserved
loop-service-preserved c =
    let more = sum_by_more (cost_in c.args.own.now) c.args.services.now c.loop-service.service-index c.service-item.result c.loop-service-test.true in
    let here = ap (cost_in c.args.own.now) c.service-item.is in
    record { counted = omega (arith, ints); bound = omega (arith, ints) }
