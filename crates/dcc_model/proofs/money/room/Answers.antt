use Rattle.std.proofs.Common.{arith}
use Rattle.std.proofs.lemmas.Int.{ints}
use Rattle.dcc_model.proofs.money.room.Goals as goal

pub returns : goal.returns
returns c =
    let beside = c.in_ok-beside.ensures.value in
    let high = c.in_ok-beside.ensures.high in
    let made = c.made_prices-made.ensures.value in
    let made_bound = c.made_prices-made.ensures.bound in
    let charged = c.charges-charged.ensures.value in
    let charged_bound = c.charges-charged.ensures.bound in
    let funds = c.funds.ensures.value in
    omega (arith, ints)
