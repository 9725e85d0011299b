use Rattle.std.proofs.Common.{◌≡◌, true, false, length, [], ◌∷◌, ◌++◌, sym, ap, ◌∙◌, rules}
use Rattle.dcc_act.specs.Subs.{same_sub}
use Rattle.dcc_sqlite_rows.specs.inner.Groups.{alone, put_behind, before_it}
use Rattle.dcc_sqlite_rows.proofs.Groups.{behind_same, behind_other, before_same, before_other}
use Rattle.dcc_sqlite_rows.proofs.grouping.put_behind.Goals as goal

pub returns-then-ne-clause-pages : goal.returns-then-ne-clause-pages
returns-then-ne-clause-pages c =
    let rest = c.pop.new.self.items in
    let page = c.in-Some.page in
    let sub = c.args.line.sub in
    let act = c.args.line.act in
    let was : c.args.pages.now.items ≡ rest ++ page ∷ [] = search rules in
    let apart : same_sub page.sub sub ≡ false = search rules in
    let pushed : c.push-then-ne-2.new.self.items ≡ (rest ++ page ∷ []) ++ alone sub act ∷ [] = search rules in
    pushed ∙ sym (ap (put_behind sub act) was ∙ behind_other rest page sub act apart)

pub returns-then-ne-clause-before : goal.returns-then-ne-clause-before
returns-then-ne-clause-before c =
    let rest = c.pop.new.self.items in
    let page = c.in-Some.page in
    let sub = c.args.line.sub in
    let was : c.args.pages.now.items ≡ rest ++ page ∷ [] = search rules in
    let apart : same_sub page.sub sub ≡ false = search rules in
    sym (ap (before_it sub) was ∙ before_other rest page sub apart)

pub returns-clause-pages : goal.returns-clause-pages
returns-clause-pages c =
    let rest = c.pop.new.self.items in
    let page = c.in-Some.page in
    let sub = c.args.line.sub in
    let act = c.args.line.act in
    let was : c.args.pages.now.items ≡ rest ++ page ∷ [] = search rules in
    let one : same_sub page.sub sub ≡ true = search rules in
    let pushed : c.push-3.new.self.items ≡ rest ++ record { sub = page.sub; acts = page.acts ++ act ∷ [] } ∷ [] = search rules in
    pushed ∙ sym (ap (put_behind sub act) was ∙ behind_same rest page sub act one)

pub returns-clause-before : goal.returns-clause-before
returns-clause-before c =
    let rest = c.pop.new.self.items in
    let page = c.in-Some.page in
    let sub = c.args.line.sub in
    let was : c.args.pages.now.items ≡ rest ++ page ∷ [] = search rules in
    let one : same_sub page.sub sub ≡ true = search rules in
    let len : c.len-before.result ≡ length page.acts = search rules in
    len ∙ sym (ap (before_it sub) was ∙ before_same rest page sub one)
