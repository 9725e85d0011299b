use Rattle.std.proofs.Common.{◌≡◌, ◌*◌, ◌-◌, take, sum_by, reverse, pos, ◌≤ℤ◌}
use Rattle.std.specs.Prelude.{unwrap_or}
use Rattle.dcc_act.specs.Services.{ServiceView, service_key}
use Rattle.dcc_model.specs.Money.{charge, live_price}
use Rattle.dcc_model.proofs.money.overruns.Given as goal

abbrev pub invariant-loop-service : goal.invariant-loop-service
invariant-loop-service l = record {
  counted : l.sum ≡ pos (sum_by (λ (service : ServiceView). unwrap_or (charge l.terms (reverse l.past) l.sid service) 0 - live_price l.terms (reverse l.past) l.sid (service_key service)) (take l.service-index l.services));
  bound : l.sum ≤ℤ pos (1_000_000_000_000_000_000 * l.service-index);
}
