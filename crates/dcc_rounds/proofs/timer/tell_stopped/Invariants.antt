use Rattle.std.proofs.Common.{ℕ, ◌<◌, ◌⊎◌, false}
use Rattle.dcc_running.specs.Calls.{IsToldStopped}
use Rattle.dcc_rounds.specs.inner.Watching.{AreMarked}
use Rattle.dcc_rounds.proofs.timer.tell_stopped.Given as goal

abbrev pub invariant-loop-shard : goal.invariant-loop-shard
invariant-loop-shard g l = record {
  marked : AreMarked g.N.Notices.has_told 0 l.told;
  watched : (i : ℕ) → i < l.shard → g.N.Notices.has_told i ⊎ IsToldStopped g.R.Records.is_stopped false;
}
