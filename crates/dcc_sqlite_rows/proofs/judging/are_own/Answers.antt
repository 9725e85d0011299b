use Rattle.std.proofs.Common.{refl, sym, ◌∙◌}
use Rattle.dcc_sqlite_rows.specs.Pages.{IsOwn}
use Rattle.dcc_sqlite_rows.proofs.Judgements.{each_more, each_at, each_end}
use Rattle.dcc_sqlite_rows.proofs.judging.are_own.Goals as goal

pub loop-page-preserved : goal.loop-page-preserved
loop-page-preserved c =
    each_more (IsOwn c.args.terms.now) c.args.pages.now c.loop-page.page-index c.page-item.result c.loop-page-test.true c.page-item.is (c.in_ok-is_own.ensures.0 c.if-not-branch.false) c.loop-page.invariant

pub returns-then-not-branch : goal.returns-then-not-branch
returns-then-not-branch c = (
  λ e. absurd cc,
  λ all. absurd (let yes = c.in_ok-is_own.ensures.1 (each_at (IsOwn c.args.terms.now) c.args.pages.now c.loop-page.page-index c.page-item.result c.loop-page-test.true c.page-item.is all) in let f = sym c.if-not-branch.true ∙ yes in cc),
)

pub returns : goal.returns
returns c = (λ _. each_end (IsOwn c.args.terms.now) c.args.pages.now c.loop-page.page-index c.loop-page-test.false c.loop-page.invariant, λ _. refl)
