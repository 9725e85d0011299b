use Rattle.std.proofs.Common.{◌⊎◌, false, arith}
use Rattle.dcc_running.specs.Calls.{IsToldStopped}
use Rattle.dcc_rounds.proofs.Watching.{marked_on, told_at, watched_on}
use Rattle.dcc_rounds.proofs.timer.tell_stopped.Goals as goal

pub loop-shard-init : goal.loop-shard-init
loop-shard-init g c = record { marked = c.requires; watched = λ i few. absurd (omega (arith, few)) }

pub tell_once-requires-clause-told : goal.tell_once-requires-clause-told
tell_once-requires-clause-told g c is = told_at g.N.Notices.has_told c.loop-shard.told c.loop-shard.shard c.loop-shard.invariant.marked is

pub loop-shard-preserved : goal.loop-shard-preserved
loop-shard-preserved g c = record {
  marked = marked_on g.N.Notices.has_told c.loop-shard.told c.loop-shard.shard c.tell_once.new.told c.loop-shard.invariant.marked c.tell_once.ensures.told;
  watched = watched_on (λ i. g.N.Notices.has_told i ⊎ IsToldStopped g.R.Records.is_stopped false) c.loop-shard.shard c.loop-shard.invariant.watched c.tell_once.ensures.watched;
}

pub returns-clause-told : goal.returns-clause-told
returns-clause-told g c = c.loop-shard.invariant.marked

pub returns-clause-watched : goal.returns-clause-watched
returns-clause-watched g c i few = c.loop-shard.invariant.watched i (omega (arith, few, c.loop-shard-test.false, c.min-shard-end.ensures))
