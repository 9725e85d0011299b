use Rattle.std.proofs.Common.{arith}
use Rattle.std.proofs.lemmas.Grind.{common_steps}
use Rattle.dcc_model.proofs.Lookback.{count_open_is}
use Rattle.dcc_model.proofs.sessions.count_open.Goals as goal

pub returns : goal.returns
returns c = grind (arith, common_steps, count_open_is c.args.terms.now c.args.past.now)
