use Rattle.std.proofs.Common.{◌∙◌, inr, refl}
use Rattle.dcc_startup.proofs.Moved.{moved}
use Rattle.dcc_startup.proofs.shards.shard_at.Goals as goal

pub returns-in-Err-clause-refused : goal.returns-in-Err-clause-refused
returns-in-Err-clause-refused g c =
    let records = c.in_ok-records.records in
    inr (records, c.in_ok-records.ensures.given, moved g.S.Records.Records.may_leave g.S.Records.Records.is_stopped records refl (c.from-count.ensures ∙ c.shards.ensures.value) refl c.in-Err.ensures.refused)
