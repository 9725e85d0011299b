use Rattle.std.proofs.Common.{rules, FitsSigned, to_z-of_z}
use Rattle.std.specs.Int.{w128}
use Rattle.dcc_ledger.proofs.Lines.{columns}
use Rattle.dcc_ledger.proofs.line.put_entry.Goals as goal

pub returns : goal.returns
returns c =
    let funds_fit : FitsSigned w128 c.args.funds = c.ranges.funds in
    let amounts = rw (to_z-of_z funds_fit) at c.in_ok-put_amounts.ensures in
    let line = columns c.args.entry.now c.args.funds c.args.text.now.items
    c.put_act.new.text.items c.put_group.new.text.items c.put_amounts.new.text.items c.put_name.new.text.items
    c.in_ok-put_act.ensures c.in_ok-put_group.ensures amounts c.in_ok-put_name.ensures in
    rw (← line) (search rules)
