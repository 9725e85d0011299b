use Rattle.std.proofs.Common.{◌∙◌}
use Rattle.sqlite.specs.State.{HasCleanDisk}
use Rattle.sqlite.specs.Held.{state}
use Rattle.dcc_sqlite_store.proofs.Steps.{survives_both, keeps_both, earlier}
use Rattle.dcc_sqlite_store.proofs.Gathering.{one_page_more}
use Rattle.dcc_sqlite_store.proofs.refilling.add_pages.Goals as goal

pub loop-i-preserved : goal.loop-i-preserved
loop-i-preserved g c =
    let old = state g.S.Store c.args.tx.now.conn.now in
    let mid = state g.S.Store c.loop-i.tx.conn.now in
    let new = state g.S.Store c.add_page.new.tx.conn.now in
    let so_far = c.loop-i.invariant in
    let it = c.in_ok-add_page.ensures in
    let before = λ (clean : HasCleanDisk new). earlier mid new _ it.survives clean in
    record {
      reference = it.same_reference ∙ so_far.reference;
      survives = survives_both old mid new so_far.survives it.survives;
      inside = λ clean inside. it.inside clean (so_far.inside (before clean) inside);
      kept = λ clean inside. keeps_both old mid new (so_far.kept (before clean) inside) (it.kept clean (so_far.inside (before clean) inside));
      ran = λ clean inside has.
          let ran = so_far.ran (before clean) inside has in
          one_page_more c.args.terms.now c.args.pages.now c.loop-i.i c.index-pages-i.result old mid new c.loop-i-test.true c.index-pages-i.is ran (it.added clean ran.inside ran.schema);
    }
