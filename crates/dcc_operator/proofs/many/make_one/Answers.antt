use Rattle.std.proofs.Common.{◌∷◌, []}
use Rattle.dcc_operator.proofs.Batches.{step_behind}
use Rattle.dcc_operator.proofs.many.make_one.Goals as goal

pub returns-clause-made : goal.returns-clause-made
returns-clause-made g c =
    let e = c.top_up-answer.ensures in
    record {
      answers = c.top_up-answer.result ∷ [];
      added = c.push_reserved.ensures.items;
      made = (e.answer, step_behind c.same_subscribers_are_equal.ensures c.args.shard.now.shard c.top_up-answer.new.self.shard c.args.ask.now c.top_up-answer.result e.step);
      terms = e.step.terms;
      identity = e.step.identity;
    }
