use Rattle.dcc_model.specs.Outcomes.{was_opened_from}
use Rattle.dcc_engine.specs.Isolation.{before_of}
use Rattle.dcc_engine.proofs.Covering.{covers}
use Rattle.dcc_engine.proofs.Owners.{the_one_is}
use Rattle.dcc_engine.proofs.laws.openers_are_found.Goals as goal

pub returns : goal.returns
returns c = λ engine past host sid sub.
    let before = before_of engine past in
    let same = c.same_subscribers_are_equal.ensures in
    the_one_is same (λ s. was_opened_from engine.setting.plan.terms (before.own s) host sid) before.subs (covers same c.one_more_act_opens.ensures engine past host sid) sub
