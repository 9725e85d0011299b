use Rattle.std.proofs.Common.{rules}
use Rattle.dcc_answer.proofs.Results.{written_error, written_some}
use Rattle.dcc_answer.proofs.protocol_error.write_error.Goals as goal

pub returns-clause-busy : goal.returns-clause-busy
returns-clause-busy c =
    let w = c.error_within.ensures in
    written_error c.read_back.ensures.list c.error_within.result _ _ _ _ _ (search rules) w.exact w.server w.short w.spelled

pub returns-clause-some : goal.returns-clause-some
returns-clause-some c = written_some c.error_within.result _ _ _ _ _ c.error_within.ensures.exact
