use Rattle.std.proofs.Common.{arith}
use Rattle.std.proofs.lemmas.Grind.{common_steps}
use Rattle.dcc_model.proofs.Lookback.{expired_is}
use Rattle.dcc_model.proofs.sessions.expired.Goals as goal

pub returns : goal.returns
returns c = grind (arith, common_steps, expired_is c.args.terms.now c.args.moment c.args.past.now)
