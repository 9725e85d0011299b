use Rattle.dcc_model.proofs.LiveGrants.{live_is_found}
use Rattle.dcc_model.proofs.Lives.{live_are_open}
use Rattle.dcc_model.proofs.OpenSessions.{few_are_open, sessions_open_once}
use Rattle.dcc_model.proofs.laws.sessions_open_once.Goals as goal

pub returns : goal.returns
returns c = record { few = few_are_open; once = sessions_open_once; live = live_are_open; found = live_is_found }
