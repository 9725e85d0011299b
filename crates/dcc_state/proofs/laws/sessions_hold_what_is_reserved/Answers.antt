use Rattle.std.proofs.Common.{reverse}
use Rattle.dcc_model.specs.Outcomes.{history}
use Rattle.dcc_state.proofs.Totals.{held_is}
use Rattle.dcc_state.proofs.laws.sessions_hold_what_is_reserved.Goals as goal

pub returns : goal.returns
returns c = λ terms xs sessions are. held_is terms (history terms (reverse xs)) sessions (c.sessions_open_once.ensures.live terms xs) are
