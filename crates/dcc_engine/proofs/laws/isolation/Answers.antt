use Rattle.dcc_engine.proofs.OwnAnswers.{same_answers, same_own, own_asked}
use Rattle.dcc_engine.proofs.Alike.{alike_answers, alike_own}
use Rattle.dcc_engine.proofs.laws.isolation.Goals as goal

pub returns-clause-answers : goal.returns-clause-answers
returns-clause-answers c = same_answers c.later_acts_change_no_outcome.ensures c.acts_come_to_their_own.ensures.last

pub returns-clause-own : goal.returns-clause-own
returns-clause-own c = same_own

pub returns-clause-asks : goal.returns-clause-asks
returns-clause-asks c = λ sub a xs. own_asked a xs sub

pub returns-clause-alike : goal.returns-clause-alike
returns-clause-alike c =
    let hosts = c.hosts_change_nothing.ensures in
    alike_answers c.later_acts_change_no_outcome.ensures c.acts_come_to_their_own.ensures.last hosts.after hosts.is_new hosts.place

pub returns-clause-alike_own : goal.returns-clause-alike_own
returns-clause-alike_own c = alike_own
