use Rattle.std.proofs.Common.{◌≡◌, ◌+◌, ◌≤◌, pos, ◌-ℤ◌, take}
use Rattle.std.specs.List.{fold}
use Rattle.dcc_session.specs.Grants.{charges_in, overruns_in, prices, left_by}
use Rattle.dcc_session.proofs.open.Open.report_each.Given as goal

abbrev pub invariant-loop-service : goal.invariant-loop-service
invariant-loop-service l = record {
  session : l.self ≡ record l.initial.self { grants = fold left_by l.initial.self.grants (take l.service-index l.services) };
  id : l.pool.id ≡ l.initial.pool.id;
  committed : l.pool.committed ≡ l.initial.pool.committed -ℤ pos (charges_in l.initial.self.grants (take l.service-index l.services));
  reserved : l.pool.reserved + prices l.initial.self.grants ≡ l.initial.pool.reserved + prices l.self.grants;
  total : l.total ≡ charges_in l.initial.self.grants (take l.service-index l.services);
  overrun : l.overrun ≡ overruns_in l.initial.self.grants (take l.service-index l.services);
  overrun_bound : l.overrun ≤ l.total;
}
