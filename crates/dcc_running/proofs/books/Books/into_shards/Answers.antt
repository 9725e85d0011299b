use Rattle.std.proofs.Common.{◌≡◌, ◌≤◌, ◌<◌, ◌+◌, List, length, take, ap, sym, subst, arith}
use Rattle.dcc_act.specs.declared.act.Act.{Act}
use Rattle.dcc_shard.specs.Routes.{shard_of}
use Rattle.dcc_shard.specs.Stored.{StoredView}
use Rattle.dcc_running.specs.Books.{BooksView, AreKept}
use Rattle.dcc_running.proofs.Placing.{placed_in}
use Rattle.dcc_running.proofs.books.Books.into_shards.Goals as goal

pub returns-clause-terms : goal.returns-clause-terms
returns-clause-terms g c = rw (← c.self.view_is) (λ are. are.terms_are)

pub returns-clause-identity : goal.returns-clause-identity
returns-clause-identity g c = rw (← c.self.view_is) (λ are. are.identity_is)

pub returns-clause-placed : goal.returns-clause-placed
returns-clause-placed g c = rw (← c.self.view_is) (λ are. are.placed)

pub returns-clause-held : goal.returns-clause-held
returns-clause-held g c = λ sub none.
    let some : 1 ≤ length c.self.inside.shards.items = omega (arith, c.self.invariant.0, c.self.inside.shards.ok.0) in
    rw (← c.self.view_is) (placed_in c.self.inside.shards.items sub none some)

pub returns-clause-kept : goal.returns-clause-kept
returns-clause-kept g c = let parts = ap (λ (v : BooksView g.row.R.Denot). v.parts) c.self.view_is in rw parts c.records_are_kept.ensures

pub returns-clause-left : goal.returns-clause-left
returns-clause-left g c = λ sub none found is_left.
    let parts = ap (λ (v : BooksView g.row.R.Denot). v.parts) c.self.view_is in
    let kept = subst (λ (items : List (StoredView g.row.R.Denot)). AreKept g.R.Records.is_stopped g.R.Records.may_leave items) (sym parts) c.records_are_kept.ensures in
    let items = c.self.inside.shards.items in
    let some : 1 ≤ length items = omega (arith, c.self.invariant.0, c.self.inside.shards.ok.0) in
    let r = shard_of sub (length items) in
    let within : r < length items = omega (arith, some) in
    let same = placed_in items sub none some in
    let P = λ (acts : List Act). (take (length acts) (found sub).acts ≡ acts) × (length (found sub).acts ≤ length acts + 1) in
    subst P same ((kept r none within).left found sub is_left)
