use Rattle.std.proofs.Common.{rules, ◌≡◌, sym, subst, List}
use Rattle.dcc_store.specs.Books.{PageView, AreInOrder}
use Rattle.dcc_store.specs.inner.Rows.{pages_of}
use Rattle.dcc_store.proofs.Orders.{pages_ordered}
use Rattle.dcc_store.proofs.row.pages.Goals as goal

pub returns-clause-ordered : goal.returns-clause-ordered
returns-clause-ordered c =
    let all : c.loop-sub.pages.items ≡ pages_of c.args.rows.now.entries = search rules in
    let P : List PageView → Type 0 = AreInOrder in
    subst P (sym all) (pages_ordered c.args.rows.now.entries c.requires)
