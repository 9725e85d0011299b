use Rattle.std.proofs.Common.{lit<}
use Rattle.dcc_credit.specs.Answers.{answer_avps, answer_octets}
use Rattle.dcc_credit.proofs.Spelled.{answer_spelled, answerable}
use Rattle.dcc_credit.proofs.laws.read_back.Goals as goal

pub returns-clause-answered : goal.returns-clause-answered
unfolding answer_octets
returns-clause-answered c = λ identity terms request proxies outcome server limits spelled.
    c.read_back-2.ensures.list request 0 (answer_avps identity terms outcome) proxies
    (answer_spelled c.read_back.ensures.size identity terms outcome (answerable identity outcome server limits)) spelled

pub returns-clause-answered_header : goal.returns-clause-answered_header
unfolding answer_octets
returns-clause-answered_header c = λ identity terms request proxies outcome server limits spelled fits small.
    c.read_back-2.ensures.header request 0 (answer_avps identity terms outcome) proxies
    (answer_spelled c.read_back.ensures.size identity terms outcome (answerable identity outcome server limits)) spelled fits (lit< tt) small
