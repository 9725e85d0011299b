use Rattle.dcc_shard.proofs.Behind.{are_steps, make_own, others_stay}
use Rattle.dcc_shard.proofs.laws.batches_are_steps.Goals as goal

pub returns-clause-steps : goal.returns-clause-steps
returns-clause-steps c = are_steps c.same_subscribers_are_equal.ensures

pub returns-clause-own : goal.returns-clause-own
returns-clause-own c = make_own c.same_subscribers_are_equal.ensures

pub returns-clause-others : goal.returns-clause-others
returns-clause-others c = others_stay
