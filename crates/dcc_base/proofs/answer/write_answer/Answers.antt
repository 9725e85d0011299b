use Rattle.std.proofs.Common.{rules}
use Rattle.dcc_request.specs.Refusals.{failed_in}
use Rattle.dcc_base.specs.Answers.{answer_avps}
use Rattle.dcc_base.proofs.Results.{told, some}
use Rattle.dcc_base.proofs.answer.write_answer.Goals as goal

pub returns-clause-busy : goal.returns-clause-busy
returns-clause-busy c =
    let w = c.answer_within.ensures in
    told c.busy_by_result.ensures.told c.read_back.ensures.error c.answer_within.result c.args.identity.now c.args.request.now c.args.code
    (failed_in c.args.failed.now) c.args.proxies.now (search rules) w.exact w.server w.own w.shown w.spelled

pub returns-clause-some : goal.returns-clause-some
returns-clause-some c =
    some c.busy_by_result.ensures.some c.answer_within.result c.args.request.now
    (answer_avps c.args.identity.now c.args.request.now c.args.code (failed_in c.args.failed.now)) c.args.proxies.now c.answer_within.ensures.exact
