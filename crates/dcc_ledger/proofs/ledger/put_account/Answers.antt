use Rattle.std.proofs.Common.{rules, ◌≡◌, ◌∙◌, append_assoc, FitsSigned, to_z-of_z}
use Rattle.std.specs.Int.{w128}
use Rattle.dcc_ledger.specs.Ledger.{account_line}
use Rattle.dcc_ledger.proofs.ledger.put_account.Goals as goal

pub returns : goal.returns
returns c =
    let funds_fit : FitsSigned w128 c.args.funds = c.ranges.funds in
    let reserved_fit : FitsSigned w128 c.args.reserved = c.ranges.reserved in
    let overrun_fit : FitsSigned w128 c.args.overrun = c.ranges.overrun in
    let line : c.as_bytes.result.now ≡ account_line c.args.funds c.args.reserved c.args.overrun =
    c.as_bytes.ensures.value ∙ simp to_z-of_z at c.in_ok-line.ensures.ok ∙ simp append_assoc in
    rw (← line) (search rules)
