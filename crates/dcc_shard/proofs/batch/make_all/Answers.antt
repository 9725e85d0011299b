use Rattle.std.proofs.Common.{refl, sym, subst}
use Rattle.dcc_shard.specs.inner.Plans.{AreMade, shard_of_books}
use Rattle.dcc_shard.proofs.Making.{made_none}
use Rattle.dcc_shard.proofs.batch.make_all.Goals as goal

pub returns-in-Err : goal.returns-in-Err
returns-in-Err g c =
    let calls = c.args.calls.items in
    let replies = c.refuse_all.new.replies.items in
    let old = c.args.kept.now in
    let new = c.room_for.new.kept in
    let stays = c.room_for.ensures.stays in
    let shard = shard_of_books c.args.identity.now old.books in
    let made = made_none shard new.books calls replies (g.R.Records.may_leave old.records) (g.R.Records.is_stopped old.records) (g.R.Records.faults old.records)
    (c.refuse_all.ensures shard refl) stays.rows stays.terms c.acts_are_kept.ensures.kept in
    let Q : g.row.R.Denot → Type 0 = λ r. AreMade shard new.books calls replies (g.R.Records.may_leave old.records) (g.R.Records.may_leave r) (g.R.Records.is_stopped old.records) (g.R.Records.is_stopped r)
    (g.R.Records.faults old.records) (g.R.Records.faults r) in
    subst Q (sym stays.records) made
