use Rattle.std.proofs.Common.{◌≡◌, ◌++◌, [], take, drop, ◌*◌, ◌^◌, pos, neg_ℤ, ◌≤ℤ◌}
use Rattle.dcc_ledger.specs.Ledger.{head_line, sum_of, lines_after}
use Rattle.dcc_ledger.proofs.ledger.ledger_text.Given as goal

abbrev pub invariant-loop-entry : goal.invariant-loop-entry
invariant-loop-entry l = record {
  funds : l.funds ≡ sum_of (take l.entry-index l.entries);
  low : neg_ℤ (pos (l.entry-index * 2 ^ 63)) ≤ℤ l.funds;
  high : l.funds ≤ℤ pos (l.entry-index * 2 ^ 63);
  text : l.text.items ++ lines_after (take l.entry-index l.entries) (drop l.entry-index l.entries)
      ≡ head_line l.sub ++ lines_after [] l.entries;
}
