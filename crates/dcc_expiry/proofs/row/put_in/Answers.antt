use Rattle.std.proofs.Common.{rules, of_calls, arith, ◌≡◌, ◌≤◌, Bool, nat_le, true, false, ap, ◌∙◌, List, length}
use Rattle.std.specs.List.{insert}
use Rattle.std.specs.List.Sorted.{IsPartitionPoint}
use Rattle.std.proofs.lemmas.Bool.Decides.{nat_tests}
use Rattle.std.proofs.lemmas.List.Sorted.{IsPartitionPoint-from_clause, IsNonDecreasingBy-insert}
use Rattle.dcc_expiry.specs.Deadlines.{deadline_in}
use Rattle.dcc_expiry.specs.declared.row.Row.{Row}
use Rattle.dcc_expiry.proofs.Rows.{parted, deadline_with, once_with}
use Rattle.dcc_expiry.proofs.row.put_in.Goals as goal

placed : (c : goal.After-unwrap) → c.insert.new.self.items ≡ insert c.args.rows.now.items c.partition_point-at.result c.args.row
placed c = search rules

-- which rows stay in front of the new one
abbrev stays : goal.After-unwrap → Row → Bool
stays c row = nat_le row.deadline c.args.row.deadline

point : (c : goal.After-unwrap)
    → IsPartitionPoint (λ (row : Row). stays c row ≡ true) (λ (row : Row). stays c row ≡ false) c.args.rows.now.items c.partition_point-at.result
point c =
    let rows = c.as_slice.result.now in
    let in_two = parted rows c.args.row.deadline (rw c.as_slice.ensures.value c.requires.rows.ordered) in
    rw (← c.as_slice.ensures.value) (IsPartitionPoint-from_clause (stays c) rows c.partition_point-at.result
    c.partition_point-at.ensures.partitioned in_two (λ a r f k. search (rules, of_calls)))

at_most : (c : goal.After-unwrap) → c.partition_point-at.result ≤ length c.args.rows.now.items
at_most c = rw (← c.as_slice.ensures.value) c.partition_point-at.ensures.bound

pub returns-clause-rows : goal.returns-clause-rows
returns-clause-rows c = rw (placed c) (record {
  ordered = IsNonDecreasingBy-insert (λ (row : Row). row.deadline) c.args.rows.now.items c.partition_point-at.result c.args.row
      c.requires.rows.ordered (at_most c)
      (λ k d lt. (let up = (point c).0 k d (omega arith) lt in grind (arith, nat_tests, up)))
      (λ k d low lt. (let past = (point c).1 k d low lt in grind (arith, nat_tests, past)));
  once = once_with c.args.rows.now.items c.partition_point-at.result c.args.row c.requires.absent c.requires.rows.once;
})

pub returns-clause-deadlines : goal.returns-clause-deadlines
returns-clause-deadlines c = λ other.
    ap (λ (rows : List Row). deadline_in rows other) (placed c)
    ∙ deadline_with c.args.rows.now.items c.partition_point-at.result c.args.row other c.requires.absent
