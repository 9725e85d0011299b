use Rattle.dcc_state.proofs.Within.{within}
use Rattle.dcc_state.proofs.laws.money_is_within.Goals as goal

pub returns : goal.returns
returns c =
    let money = c.funds_are_accounted_for.ensures in
    within money.limited money.covered c.sessions_open_once.ensures.live
