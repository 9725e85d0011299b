use Rattle.std.proofs.Common.{◌≡◌, ◌≤◌, ◌*◌, length, take, sum_by}
use Rattle.dcc_act.specs.Services.{ServiceView}
use Rattle.dcc_act.specs.declared.limits.TheConstants.{MAX_IDS}
use Rattle.dcc_act.proofs.services.count_ids.Given as goal

abbrev pub invariant-loop-service : goal.invariant-loop-service
invariant-loop-service l = record {
  counted : l.count ≡ sum_by (λ (service : ServiceView). length service.ids) (take l.service-index l.services);
  bound : l.count ≤ MAX_IDS * l.service-index;
}
