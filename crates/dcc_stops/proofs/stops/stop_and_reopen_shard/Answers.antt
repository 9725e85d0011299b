use Rattle.std.proofs.Common.{◌≡◌, sym, ◌∙◌}
use Rattle.sqlite.specs.Files.{file_state}
use Rattle.sqlite.specs.State.{HasCleanDisk}
use Rattle.dcc_shard.specs.Shards.{held}
use Rattle.dcc_stops.proofs.Stopped.{held_again}
use Rattle.dcc_stops.proofs.stops.stop_and_reopen_shard.Goals as goal

pub returns-in-Ok-clause-again : goal.returns-in-Ok-clause-again
returns-in-Ok-clause-again g c = λ was same.
    let records = c.into_records-records in
    let early : HasCleanDisk (file_state records.result.conn) = rw records.ensures.value was in
    held_again _ (λ r. r.stopped) (λ r. HasCleanDisk (file_state r.conn)) _ c.args.shard.shard.terms _ (held c.args.shard.shard) _ _ c.args.shard.records.stopped _ c.shard_over.result
    c.acts_come_to_their_own.ensures.repeats c.acts_come_to_their_own.ensures.old
    (rw records.ensures.value at records.ensures.kept) (rw records.ensures.value at records.ensures.beyond) (rw records.ensures.value at records.ensures.left)
    (c.in-Ok.ensures.terms ∙ same) c.in-Ok.ensures.going (λ r clean going. (clean, going))
    (λ content found. rw records.ensures.value at (c.in-Ok.ensures.found early (same ∙ sym records.ensures.terms) content found))
    c.shard_over.ensures.terms c.shard_over.ensures.going c.shard_over.ensures.there c.shard_over.ensures.same
