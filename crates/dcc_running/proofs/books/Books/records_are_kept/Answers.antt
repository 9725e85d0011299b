use Rattle.std.proofs.Common.{List, length, get_or, ap, subst, arith, ◌∙◌}
use Rattle.dcc_shard.specs.Stored.{StoredView}
use Rattle.dcc_running.specs.Books.{IsKeptBy}
use Rattle.dcc_running.proofs.Placing.{kept_by}
use Rattle.dcc_running.proofs.Walks.{one_more}
use Rattle.dcc_running.proofs.books.Books.records_are_kept.Goals as goal

pub returns : goal.returns
returns g c = λ i none below.
    let parts = c.deref-shard-items.ensures.value ∙ ap (λ v. v.parts) c.self.view_is in
    let P = λ (items : List (StoredView g.row.R.Denot)). IsKeptBy g.R.Records.is_stopped g.R.Records.may_leave (get_or items i none) in
    let many = ap length parts in
    subst P parts (c.loop-shard.invariant i none (omega (arith, below, many, c.loop-shard-test.false)))

pub loop-shard-preserved : goal.loop-shard-preserved
loop-shard-preserved g c =
    one_more (IsKeptBy g.R.Records.is_stopped g.R.Records.may_leave) c.deref-shard-items.result.now c.loop-shard.shard-index c.shard-item.result c.loop-shard-test.true c.shard-item.is c.loop-shard.invariant
    (kept_by g.R.Records.is_stopped g.R.Records.may_leave c.shard-item.result c.records-records.result.now c.records-records.ensures.value c.records-records.ensures.kept
    c.records-records.ensures.beyond c.records-records.ensures.left)
