use Rattle.std.proofs.Common.{List, sym, ap, subst, arith, ◌∙◌}
use Rattle.dcc_act.specs.declared.sub.Sub.{Sub}
use Rattle.dcc_account.specs.declared.account.Account.{Account}
use Rattle.dcc_shard.specs.Shards.{account_in}
use Rattle.dcc_shard.specs.inner.Books.{BooksView, AreBooks}
use Rattle.dcc_shard.proofs.BookSteps.{pending_known, pending_first}
use Rattle.dcc_shard.proofs.books.Books.prepare.Goals as goal

pub returns-in-Some-clause-pending : goal.returns-in-Some-clause-pending
returns-in-Some-clause-pending c =
    let are = subst (λ (books : BooksView). AreBooks books.rows books.terms) c.self.view_is c.self.invariant in
    let is = ap (λ (books : BooksView). account_in books.rows c.args.sub.now) (sym c.self.view_is) ∙ sym c.in-Some.ensures.value in
    pending_known c.args.self.now c.args.sub.now c.in-Some.account.now c.args.act c.in_ok-step.step are is c.in_ok-step.ensures.act c.in_ok-step.ensures.prepared

pub returns-clause-pending : goal.returns-clause-pending
returns-clause-pending c =
    pending_first _ c.args.sub.now c.in-Ok.account c.args.act c.in-Ok-prepare.step
    (ap (λ (rows : List (Sub × Account)). account_in rows c.args.sub.now) c.reserve.ensures.entries ∙ sym c.in_default.ensures.value)
    c.in-Ok.ensures.terms c.in-Ok.ensures.acts (omega (arith, c.in_default-reserve.ensures.ok)) c.in-Ok-prepare.ensures.act c.in-Ok-prepare.ensures.prepared
