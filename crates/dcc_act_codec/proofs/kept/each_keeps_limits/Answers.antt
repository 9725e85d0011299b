use Rattle.std.proofs.Common.{take, sym}
use Rattle.std.proofs.lemmas.List.{take_all}
use Rattle.std.proofs.lemmas.List.Elements.{All-more, All-same}
use Rattle.dcc_act_codec.specs.Limits.{WithinService}
use Rattle.dcc_act_codec.proofs.kept.each_keeps_limits.Goals as goal

pub loop-service-preserved : goal.loop-service-preserved
loop-service-preserved c =
    All-more WithinService c.args.services.now c.loop-service.service-index c.service-item.result c.loop-service-test.true c.loop-service.invariant
    (rw (← c.service-item.is) c.service_keeps_limits.ensures)

pub returns : goal.returns
returns c =
    All-same WithinService c.args.services.now (take c.loop-service.service-index c.args.services.now)
    (sym (take_all c.loop-service.service-index c.args.services.now c.loop-service-test.false)) c.loop-service.invariant
