use Rattle.dcc_running.proofs.Growth.{batches_grow, steps_grow}
use Rattle.dcc_running.proofs.ward.acts_grow.Goals as goal

pub returns-clause-steps : goal.returns-clause-steps
returns-clause-steps g c = steps_grow c.same_subscribers_are_equal.ensures c.one_more_act.ensures c.args.shard.now.shard c.acts_are_own.ensures

pub returns-clause-batches : goal.returns-clause-batches
returns-clause-batches g c = batches_grow c.one_more_act.ensures c.leaving_out_changes_nothing.ensures.whole c.args.shard.now.shard c.acts_are_own.ensures
