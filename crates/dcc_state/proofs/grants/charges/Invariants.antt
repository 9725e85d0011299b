use Rattle.std.proofs.Common.{◌≡◌, ◌*◌, take, sum_by, pos, ◌≤ℤ◌}
use Rattle.std.specs.Prelude.{unwrap_or}
use Rattle.dcc_act.specs.Services.{ServiceView}
use Rattle.dcc_session.specs.Grants.{charge_in}
use Rattle.dcc_state.proofs.grants.charges.Given as goal

abbrev pub invariant-loop-service : goal.invariant-loop-service
invariant-loop-service l = record {
  counted : l.sum ≡ pos (sum_by (λ (service : ServiceView). unwrap_or (charge_in l.own service) 0) (take l.service-index l.services));
  bound : l.sum ≤ℤ pos (1_000_000_000_000_000_000 * l.service-index);
}
