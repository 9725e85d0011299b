use Rattle.std.proofs.Common.{◌≡◌, take}
use Rattle.dcc_running.specs.Audited.{WereTrue}
use Rattle.dcc_running.proofs.shards.Shards.audit.Given as goal

abbrev pub invariant-loop-at : goal.invariant-loop-at
invariant-loop-at g l = record {
  same : l.seat-inside.receipts.items ≡ l.fn.seat;
  were_true : WereTrue g.J.Naming.opening (take l.at l.seat-inside.receipts.items);
}
