use Rattle.std.proofs.Common.{◌≡◌, take}
use Rattle.std.specs.List.{list_any}
use Rattle.dcc_shard.specs.Stored.{StoredView}
use Rattle.dcc_rounds.proofs.run.tell_stopped.Given as goal

abbrev pub invariant-loop-shard : goal.invariant-loop-shard
invariant-loop-shard g l =
    l.stopped ≡ list_any (λ (part : StoredView g.row.R.Denot). g.R.Records.is_stopped part.records) (take l.shard l.shards)
