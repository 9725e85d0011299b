use Rattle.std.proofs.Common.{◌≡◌, length, sym, ap, ap₂, ◌∙◌, ◌++◌, List, arith, rules}
use Rattle.std.proofs.lemmas.List.{take_all}
use Rattle.dcc_tariff.specs.Terms.{TermsView}
use Rattle.dcc_act.specs.declared.act.Act.{Act}
use Rattle.dcc_act.specs.declared.sub.Sub.{Sub}
use Rattle.dcc_model.specs.Outcomes.{acts, funds}
use Rattle.dcc_sqlite_rows.specs.declared.tally.Tally.{Tally}
use Rattle.dcc_sqlite_rows.specs.Rows.{sub_octets}
use Rattle.dcc_sqlite_rows.specs.Pages.{entry_rows_to}
use Rattle.dcc_sqlite_rows.proofs.Judgements.{made_more, page_next, page_other}
use Rattle.dcc_sqlite_rows.proofs.page.judge_page.Goals as goal

pub loop-i-preserved : goal.loop-i-preserved
loop-i-preserved c =
    let it = c.loop-i.invariant in
    let all = c.acts-acts.result.now in
    let next = page_next c.args.terms.now (sub_octets c.sub-sub.result) all c.args.rows.now c.loop-i.account.terms c.loop-i.account.acts c.loop-i.i c.loop-i.at c.in-Some.count c.index-acts-i.result c.loop-i-test.true c.index-acts-i.is it.within it.rows it.terms it.acts
    (rw c.in-Some.is at c.in_ok-count.ensures.taken) in
    record {
      terms = c.in_ok-count.ensures.terms ∙ it.terms;
      acts = made_more all c.loop-i.i c.index-acts-i.result c.loop-i.account.acts c.judge_act.new.account.acts c.loop-i-test.true c.index-acts-i.is it.acts (rw c.in-Some.is at c.in_ok-count.ensures.acts);
      within = next.0;
      rows = next.1;
    }

pub overflow_add-at : goal.overflow_add-at
overflow_add-at c =
    let it = c.loop-i.invariant in
    let all = c.acts-acts.result.now in
    let next = page_next c.args.terms.now (sub_octets c.sub-sub.result) all c.args.rows.now c.loop-i.account.terms c.loop-i.account.acts c.loop-i.i c.loop-i.at c.in-Some.count c.index-acts-i.result c.loop-i-test.true c.index-acts-i.is it.within it.rows it.terms it.acts
    (rw c.in-Some.is at c.in_ok-count.ensures.taken) in
    search (rules, next.0)

pub returns-in_default : goal.returns-in_default
returns-in_default c = record {
  own = tt;
  rows = tt;
  within = tt;
  tally = tt;
  none = λ _ own tail same.
      let it = c.loop-i.invariant in
      let all = c.acts-acts.result.now in
      let whole : all ≡ c.args.page.now.acts = c.acts-acts.ensures.value in
      let sub : c.sub-sub.result ≡ c.args.page.now.sub = c.sub-sub.ensures in
      let none : c.in_ok-count.field-0 ≡ _ = c.in_default.is in
      let rows : c.args.rows.now ≡ entry_rows_to c.args.terms.now (sub_octets c.sub-sub.result) all (length all) ++ tail =
      same ∙ ap₂ (λ (s : Sub) (l : List Act). entry_rows_to c.args.terms.now (sub_octets s) l (length l) ++ tail) (sym sub) (sym whole) in
      absurd (page_other c.args.terms.now (sub_octets c.sub-sub.result) all c.args.rows.now c.one_more_act.ensures c.loop-i.account.terms c.loop-i.account.acts c.loop-i.i c.loop-i.at c.index-acts-i.result c.loop-i-test.true c.index-acts-i.is it.within it.rows it.terms it.acts
      (c.in_ok-count.ensures.other none) (ap (acts c.args.terms.now) whole ∙ own ∙ sym whole) tail rows);
}

pub returns : goal.returns
returns c =
    let it = c.loop-i.invariant in
    let all = c.acts-acts.result.now in
    let whole : all ≡ c.args.page.now.acts = c.acts-acts.ensures.value in
    let sub : c.sub-sub.result ≡ c.args.page.now.sub = c.sub-sub.ensures in
    let made : c.loop-i.account.acts ≡ c.args.page.now.acts = it.acts ∙ take_all c.loop-i.i all c.loop-i-test.false ∙ whole in
    let n : c.loop-i.i ≡ length all = omega (arith, c.loop-i-test.false, c.loop-i.auto.i-end) in
    record {
      own = sym (ap₂ acts it.terms made) ∙ c.acts_are_own.ensures ∙ made;
      rows = it.rows ∙ ap (entry_rows_to c.args.terms.now (sub_octets c.sub-sub.result) all) n ∙ ap₂ (λ (s : Sub) (l : List Act). entry_rows_to c.args.terms.now (sub_octets s) l (length l)) sub whole;
      within = it.within;
      tally = c.tally_of-tally.ensures ∙ ap₂ (λ (t : TermsView) (l : List Act). let r : Tally = record { acts = length l; funds = funds t l } in r) it.terms made;
      none = λ e. absurd cc;
    }
