use Rattle.std.proofs.Common.{◌≡◌, map, ap, ◌∙◌}
use Rattle.std.proofs.lemmas.List.{take_all}
use Rattle.dcc_credit.specs.Acts.{service_of}
use Rattle.dcc_credit.proofs.Apart.{limits_kept}
use Rattle.dcc_credit.proofs.act.services_of.Goals as goal

pub unwrap-requires : goal.unwrap-requires
unwrap-requires c =
    let request = c.args.request.now in
    let said = c.services-services.ensures in
    let kept = limits_kept c.args.plan.now c.args.moment request.type request.services said.limits said.few_ids said.alone in
    let made : c.loop-service.made.items ≡ map (service_of c.args.plan.now c.args.moment request.type) request.services =
    c.loop-service.invariant ∙ ap (map (service_of c.args.plan.now c.args.moment c.request_type-kind.result)) (take_all c.loop-service.service-index c.services-services.result.now c.loop-service-test.false)
    ∙ cc in
    c.from_vec.ensures.limits.1 (rw made kept)
