use Rattle.dcc_answer.specs.Answers.{answer_header}
use Rattle.dcc_answer.proofs.Spelled.{append_spelled, error_spelled}
use Rattle.dcc_answer.proofs.Shown.{failed_spelled}
use Rattle.dcc_answer.proofs.ReadBack.{avps_back, header_back}
use Rattle.dcc_answer.proofs.laws.read_back.Goals as goal

pub returns-clause-list : goal.returns-clause-list
returns-clause-list c = λ request bits avps proxies spelled behind.
    avps_back (answer_header request bits) avps proxies c.read_back.ensures.list (append_spelled avps proxies spelled behind)

pub returns-clause-header : goal.returns-clause-header
returns-clause-header c = λ request bits avps proxies spelled behind fits few small.
    header_back c.read_back.ensures.size c.header_read_back.ensures request bits avps proxies fits few (append_spelled avps proxies spelled behind) small

pub returns-clause-error : goal.returns-clause-error
returns-clause-error c = error_spelled

pub returns-clause-shown : goal.returns-clause-shown
returns-clause-shown c = failed_spelled
