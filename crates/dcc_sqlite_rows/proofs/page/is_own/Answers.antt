use Rattle.std.proofs.Common.{◌≡◌, refl, sym, ap, ap₂, ◌∙◌, ◌++◌, ◌∷◌, [], List, take}
use Rattle.std.proofs.lemmas.List.{take_all}
use Rattle.dcc_tariff.specs.Terms.{TermsView}
use Rattle.dcc_act.specs.declared.act.Act.{Act}
use Rattle.dcc_model.specs.Outcomes.{acts}
use Rattle.dcc_sqlite_rows.proofs.Judgements.{not_own, made_more}
use Rattle.dcc_sqlite_rows.proofs.page.is_own.Goals as goal

pub loop-act-preserved : goal.loop-act-preserved
loop-act-preserved c =
    let all = c.acts-acts.result.now in
    let it = c.loop-act.invariant in
    record {
      terms = c.in_ok-make.ensures.terms ∙ it.terms;
      acts = made_more all c.loop-act.act-index c.act-item.result c.loop-act.account.acts c.make.new.account.acts c.loop-act-test.true c.act-item.is it.acts (c.in_ok-make.ensures.new c.if-not-branch.false);
    }

pub returns-then-not-branch : goal.returns-then-not-branch
returns-then-not-branch c =
    let terms = c.args.terms.now in
    let all = c.acts-acts.result.now in
    let i = c.loop-act.act-index in
    let act = c.act-item.result in
    let it = c.loop-act.invariant in
    let was = c.in_ok-make.ensures.old c.if-not-branch.true in
    let old : acts terms (take i all ++ act ∷ []) ≡ take i all =
    sym (ap₂ (λ (t : TermsView) (l : List Act). acts t (l ++ act ∷ [])) it.terms it.acts) ∙ was ∙ it.acts in
    let whole : all ≡ c.args.page.now.acts = c.acts-acts.ensures.value in
    let no = not_own c.one_more_act.ensures terms all i act c.loop-act-test.true c.act-item.is old in
    (λ e. absurd cc, λ own. absurd (no (ap (acts terms) whole ∙ own ∙ sym whole)))

pub returns : goal.returns
returns c =
    let terms = c.args.terms.now in
    let all = c.acts-acts.result.now in
    let it = c.loop-act.invariant in
    let whole : all ≡ c.args.page.now.acts = c.acts-acts.ensures.value in
    let made : c.loop-act.account.acts ≡ c.args.page.now.acts = it.acts ∙ take_all c.loop-act.act-index all c.loop-act-test.false ∙ whole in
    (λ _. sym (ap₂ acts it.terms made) ∙ c.acts_are_own.ensures ∙ made, λ _. refl)
