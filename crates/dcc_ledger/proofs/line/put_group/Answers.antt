use Rattle.std.proofs.Common.{rules, ◌≡◌, ◌++◌, codes, ◌∙◌, string_bytes}
use Rattle.std.specs.Fmt.{decimal}
use Rattle.dcc_ledger.specs.Columns.{padded_left}
use Rattle.dcc_ledger.specs.Ledger.{group_text}
use Rattle.dcc_ledger.proofs.Padding.{digits_right, dash_right}
use Rattle.dcc_ledger.proofs.line.put_group.Goals.{in-Some+in_ok-column-in-Some, in-None+in_ok-column-in-None}
use Rattle.dcc_ledger.proofs.line.put_group.Goals as goal

pub returns : goal.returns
returns c =
    let column : string_bytes c.match-group.column ≡ padded_left 10 (group_text c.args.group) ++ codes " " =
    elim c.match-group.branch [
      | in-Some+in_ok-column-in-Some w ↦
          let digits = rw (w.laid_out.ensures, digits_right 10 (decimal w.in-Some.group)) at w.in_ok-column-in-Some.ensures.ok in
          rw (w.column-is, w.in-Some.is) digits
      | in-None+in_ok-column-in-None w ↦
          let dash = rw (w.laid_out-in-None.ensures, dash_right) at w.in_ok-column-in-None.ensures.ok in
          rw (w.column-is, w.in-None.is) dash
    ] in
    rw (← (c.as_bytes.ensures.value ∙ column)) (search rules)
