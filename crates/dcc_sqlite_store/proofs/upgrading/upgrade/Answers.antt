use Rattle.std.proofs.Common.{◌≡◌, inl, inr, Ok, Err, ap, rules}
use Rattle.sqlite.specs.Held.{state}
use Rattle.dcc_sqlite_store.specs.Tables.{layout}
use Rattle.dcc_sqlite_store.proofs.Ordered.{no_old_book}
use Rattle.dcc_sqlite_store.proofs.Upgraded.{if_some_truncated}
use Rattle.dcc_sqlite_store.proofs.upgrading.upgrade.Goals as goal

pub returns-in-Ok-clause-upgraded : goal.returns-in-Ok-clause-upgraded
returns-in-Ok-clause-upgraded g c = if_some_truncated _ _ _ c.in-Ok.count (λ n it. it.upgraded) c.in-Ok.ensures.upgraded

pub returns-in-Ok-clause-other : goal.returns-in-Ok-clause-other
returns-in-Ok-clause-other g c is =
    let has : c.args.conn.schema ≡ layout = search rules in
    inr (has, λ clean. c.in-Ok.ensures.other clean (ap Ok is))

pub returns-in-Err-clause-whole : goal.returns-in-Err-clause-whole
returns-in-Err-clause-whole g c is clean held =
    no_old_book c.old_books_have_pages.ensures.pages c.old_books_have_pages.ensures.whole c.args.setting.now.terms (state g.S.Store c.args.conn).now.trees (elim is [
      | inl damaged ↦ inl (c.in-Err.ensures.damaged clean (ap Err damaged))
      | inr disagree ↦ inr (c.in-Err.ensures.disagree clean (ap Err disagree))
    ]) held
