use Rattle.std.proofs.Common.{◌∙◌, ◌++◌, ◌∷◌, [], List, ap, subst}
use Rattle.sqlite.specs.State.{HasCleanDisk}
use Rattle.sqlite.specs.Held.{state}
use Rattle.dcc_tariff.specs.Terms.{TermsView}
use Rattle.dcc_act.specs.declared.act.Act.{Act}
use Rattle.dcc_model.specs.Outcomes.{acts}
use Rattle.dcc_sqlite_store.specs.inner.Refilling.{AddsNext}
use Rattle.dcc_sqlite_store.proofs.Steps.{survives_both, keeps_both, earlier}
use Rattle.dcc_sqlite_store.proofs.Fronts.{made_next}
use Rattle.dcc_sqlite_store.proofs.Gathering.{one_act_more}
use Rattle.dcc_sqlite_store.proofs.refilling.add_acts.Goals as goal

pub loop-i-preserved : goal.loop-i-preserved
loop-i-preserved g c =
    let old = state g.S.Store c.args.tx.now.conn.now in
    let mid = state g.S.Store c.loop-i.tx.conn.now in
    let new = state g.S.Store c.add_next.new.tx.conn.now in
    let terms = c.args.account.now.terms in
    let all = c.args.all.now in
    let i = c.loop-i.i in
    let act = c.index-all-i.result in
    let so_far = c.loop-i.invariant in
    let it = c.in_ok-add_next.ensures in
    let before = λ (clean : HasCleanDisk new). earlier mid new _ it.survives clean in
    let made = it.acts ∙ ap (λ (t : TermsView). acts t (c.loop-i.account.acts ++ act ∷ [])) so_far.terms in
    record {
      reference = it.same_reference ∙ so_far.reference;
      terms = it.terms ∙ so_far.terms;
      acts = made_next c.one_more_act.ensures c.leaving_out_changes_nothing.ensures.none terms all i act c.loop-i.account.acts c.add_next.new.account.acts c.loop-i-test.true c.index-all-i.is c.requires.own so_far.acts made;
      survives = survives_both old mid new so_far.survives it.survives;
      inside = λ clean inside. it.inside clean (so_far.inside (before clean) inside);
      kept = λ clean inside. keeps_both old mid new (so_far.kept (before clean) inside) (it.kept clean (so_far.inside (before clean) inside));
      ran = λ clean inside has.
          let ran = so_far.ran (before clean) inside has in
          one_act_more terms c.args.sub.now all i act c.loop-i-test.true c.index-all-i.is old mid new ran
          (subst (λ (l : List Act). AddsNext terms c.args.sub.now l act mid new) so_far.acts (subst (λ (t : TermsView). AddsNext t c.args.sub.now c.loop-i.account.acts act mid new) so_far.terms (it.added clean ran.inside ran.schema)));
    }
