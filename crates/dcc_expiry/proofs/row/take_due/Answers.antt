use Rattle.std.proofs.Common.{rules, of_calls, arith, ◌≡◌, Bool, nat_le, true, false, List, ap, ◌∙◌}
use Rattle.std.specs.List.Sorted.{IsPartitionPoint}
use Rattle.std.proofs.lemmas.Bool.Decides.{nat_tests}
use Rattle.std.proofs.lemmas.List.Sorted.{IsPartitionPoint-from_clause, IsNonDecreasingBy-drop}
use Rattle.dcc_expiry.specs.Deadlines.{deadline_in}
use Rattle.dcc_expiry.specs.declared.row.Row.{Row}
use Rattle.dcc_expiry.proofs.Rows.{parted, deadline_behind, once_behind}
use Rattle.dcc_expiry.proofs.row.take_due.Goals as goal

-- which rows the moment has come to
abbrev has_come : goal.After-take_front → Row → Bool
has_come c row = nat_le row.deadline c.args.moment

point : (c : goal.After-take_front)
    → IsPartitionPoint (λ (row : Row). has_come c row ≡ true) (λ (row : Row). has_come c row ≡ false) c.args.rows.now.items c.partition_point-many.result
point c =
    let rows = c.as_slice.result.now in
    let in_two = parted rows c.args.moment (rw c.as_slice.ensures.value c.requires.ordered) in
    rw (← c.as_slice.ensures.value) (IsPartitionPoint-from_clause (has_come c) rows c.partition_point-many.result
    c.partition_point-many.ensures.partitioned in_two (λ a r f k. search (rules, of_calls)))

pub returns-clause-rows : goal.returns-clause-rows
returns-clause-rows c = rw c.take_front.ensures (record {
  ordered = IsNonDecreasingBy-drop (λ (row : Row). row.deadline) c.partition_point-many.result c.args.rows.now.items c.requires.ordered;
  once = once_behind c.args.rows.now.items c.partition_point-many.result c.requires.once;
})

pub returns-clause-deadlines : goal.returns-clause-deadlines
returns-clause-deadlines c = λ other.
    ap (λ (rows : List Row). deadline_in rows other) c.take_front.ensures
    ∙ deadline_behind c.args.rows.now.items c.partition_point-many.result c.args.moment other
    (λ k d lt. (let come = (point c).0 k d (omega arith) lt in grind (arith, nat_tests, come)))
    (λ k d low lt. (let later = (point c).1 k d low lt in grind (arith, nat_tests, later)))
    c.requires.once
