use Rattle.std.proofs.Common.{◌≡◌}
use Rattle.dcc_rounds.specs.Lanes.{all_put, lanes_of, put_first}
use Rattle.dcc_rounds.specs.declared.work.Work.TheVariants as work
use Rattle.dcc_rounds.proofs.lanes.ask_all_to_audit.Given as goal

abbrev pub invariant-loop-index : goal.invariant-loop-index
invariant-loop-index g l = record {
  put : all_put l.workers.items ≡ put_first l.index work.Audit (all_put l.fn.workers.items);
  lanes : lanes_of l.workers.items ≡ lanes_of l.fn.workers.items;
}
