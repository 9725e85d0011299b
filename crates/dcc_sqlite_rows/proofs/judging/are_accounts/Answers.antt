use Rattle.std.proofs.Common.{◌≡◌, false, pos, get_or, refl, sym, ap, ◌∙◌, arith}
use Rattle.dcc_act.specs.declared.sub.Sub.{Sub}
use Rattle.dcc_store.specs.Books.{PageView}
use Rattle.dcc_sqlite_rows.specs.declared.tally.Tally.{Tally}
use Rattle.dcc_sqlite_rows.specs.Rows.{sub_octets, account_row}
use Rattle.dcc_sqlite_rows.proofs.Judgements.{other_count, other_account, each_account}
use Rattle.dcc_sqlite_rows.proofs.judging.are_accounts.Goals as goal

pub returns-then-accounts-pages : goal.returns-then-accounts-pages
returns-then-accounts-pages c = (λ e. absurd cc, λ same. absurd (other_count c.args.accounts.now c.args.pages.now c.args.tallies.now c.requires c.if-accounts-pages.true same))

pub returns : goal.returns
returns c =
    (λ _. each_account c.args.accounts.now c.args.pages.now c.args.tallies.now c.requires c.if-accounts-pages.false (λ k r p t below. c.loop-i.invariant k r p t (omega (arith, below, c.loop-i-test.false))), λ _. refl)

pub returns-then-not-is_account_row : goal.returns-then-not-is_account_row
returns-then-not-is_account_row c =
    let none : Tally = record { acts = 0; funds = pos 0 } in
    let tally = get_or c.args.tallies.now c.loop-i.i none in
    let no : c.is_account_row.result ≡ false = c.if-not-is_account_row.true in
    let sub : (get_or c.args.pages.now c.loop-i.i c.index-pages-i.result).sub ≡ c.sub.result = ap (λ (p : PageView). p.sub) (sym c.index-pages-i.is) ∙ sym c.sub.ensures in (
      λ e. absurd cc,
      λ same. absurd (other_account c.args.accounts.now c.args.pages.now c.args.tallies.now c.loop-i.i c.index-accounts-i.result c.index-pages-i.result none c.requires c.loop-i-test.true
          (λ is. let yes = c.is_account_row.ensures.1 (c.index-accounts-i.is ∙ is ∙ ap (λ (s : Sub). account_row (sub_octets s) tally.acts tally.funds) sub) in absurd (let f = sym no ∙ yes in cc)) same),
    )
