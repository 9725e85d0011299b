use Rattle.std.proofs.Common.{FitsSigned, to_z-of_z}
use Rattle.std.specs.Int.{w128}
use Rattle.dcc_port.specs.Accounts.{money_text}
use Rattle.dcc_port.proofs.account.money_line.Goals as goal

pub returns : goal.returns
unfolding money_text
returns c =
    let funds_fit : FitsSigned w128 c.args.funds = c.ranges.funds in
    let reserved_fit : FitsSigned w128 c.args.reserved = c.ranges.reserved in
    let free_fit : FitsSigned w128 c.args.free = c.ranges.free in
    let overrun_fit : FitsSigned w128 c.args.overrun = c.ranges.overrun in
    simp to_z-of_z at c.in_ok-line.ensures.ok
