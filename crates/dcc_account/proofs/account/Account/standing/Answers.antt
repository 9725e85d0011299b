use Rattle.std.proofs.Common.{arith}
use Rattle.std.proofs.lemmas.Int.{ints}
use Rattle.dcc_account.proofs.Steps.{standing_is}
use Rattle.dcc_account.proofs.account.Account.standing.Goals as goal

pub returns : goal.returns
returns c =
    let funds = c.funds.ensures.value in
    let free = c.free.ensures.value in
    let overrun = c.overrun.ensures in
    standing_is c.args.self.now.terms c.args.self.now.acts _ (omega (arith, ints)) (omega (arith, ints)) (omega (arith, ints))
