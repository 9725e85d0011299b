use Rattle.std.proofs.Common.{arith}
use Rattle.std.proofs.lemmas.Int.{ints}
use Rattle.dcc_account.proofs.account.Account.overrun.Goals as goal

pub returns : goal.returns
returns c = rw (← c.self.view_is) (let kept = c.self.invariant.overrun_are in omega (arith, ints))
