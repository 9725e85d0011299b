use Rattle.std.proofs.Common.{List, length, get_or, ap, subst, arith, ◌∙◌}
use Rattle.dcc_shard.specs.Shards.{AreOwn}
use Rattle.dcc_shard.specs.Stored.{StoredView}
use Rattle.dcc_running.proofs.Owned.{owned}
use Rattle.dcc_running.proofs.books.Books.acts_are_own.Goals as goal

pub returns : goal.returns
returns g c = λ sub.
    owned c.args.self.now.terms c.args.self.now.identity c.args.self.now.parts c.requires c.leaving_out_changes_nothing.ensures.none (λ i none below.
    let parts = c.deref-shard-items.ensures.value ∙ ap (λ v. v.parts) c.self.view_is in
    let P = λ (items : List (StoredView g.row.R.Denot)). AreOwn (get_or items i none).shard in
    let many = ap length parts in
    subst P parts (c.loop-shard.invariant i none (omega (arith, below, many, c.loop-shard-test.false)))) sub
