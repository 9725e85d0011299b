use Rattle.std.proofs.Common.{◌≡◌, drop}
use Rattle.dcc_expiry.specs.Deadlines.{deadline_in}
use Rattle.dcc_expiry.proofs.due.Due.deadline_of.Given as goal

abbrev pub invariant-loop-row : goal.invariant-loop-row
invariant-loop-row l = deadline_in (drop l.row-index l.row-items) l.sid ≡ deadline_in l.self.rows l.sid
