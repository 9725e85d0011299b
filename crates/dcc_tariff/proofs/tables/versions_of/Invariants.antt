use Rattle.std.proofs.Common.{◌≡◌, true, [], drop, vec_len}
use Rattle.toml.specs.View.{items_view}
use Rattle.dcc_tariff.specs.Plans.{are_ordered}
use Rattle.dcc_tariff.specs.PlanTexts.{versions_onto}
use Rattle.dcc_tariff.proofs.tables.versions_of.Given as goal

abbrev pub invariant-loop-table : goal.invariant-loop-table
invariant-loop-table l = record {
  rest : versions_onto l.versions.items (items_view (drop l.table-index l.tables)) ≡ versions_onto [] (items_view l.tables);
  ordered : are_ordered l.versions.items ≡ true;
  few : vec_len l.versions ≡ l.table-index;
}
