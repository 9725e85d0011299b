use Rattle.std.proofs.Common.{◌≤◌, List, length, ap, sym, subst, arith}
use Rattle.dcc_act.specs.declared.sub.Sub.{Sub}
use Rattle.dcc_shard.specs.Stored.{StoredView}
use Rattle.dcc_running.specs.Books.{BeginWith, BooksView, HaveOwnPlaces, book}
use Rattle.dcc_running.specs.declared.lock.Side.{Side}
use Rattle.dcc_running.proofs.Begun.{begun_at}
use Rattle.dcc_running.proofs.books.Books.acts_are_begun.Goals as goal

pub returns : goal.returns
returns g c =
    let some : 1 ≤ length c.self.inside.shards.items = omega (arith, c.self.invariant.0, c.self.inside.shards.ok.0) in
    let own = subst (λ (sides : List Side). HaveOwnPlaces sides) (sym (ap (λ (v : BooksView g.row.R.Denot). v.sides) c.self.view_is)) c.requires in
    subst (λ (parts : List (StoredView g.row.R.Denot)). (sub : Sub) → BeginWith (g.J.Naming.opening sub) (book parts sub))
    (ap (λ (v : BooksView g.row.R.Denot). v.parts) c.self.view_is)
    (begun_at g.J.Naming.opening c.self.inside.sides.items c.self.inside.shards.items some c.self.invariant.8 own)
