use Rattle.std.proofs.Common.{refl, ◌∙◌, take}
use Rattle.sqlite.specs.State.{HasCleanDisk}
use Rattle.sqlite.specs.Held.{state}
use Rattle.dcc_sqlite_store.proofs.Steps.{survives_nothing, survives_both, keeps_nothing, keeps_both, earlier}
use Rattle.dcc_sqlite_store.proofs.Batches.{nothing_appended, steps_then, keyed_after}
use Rattle.dcc_sqlite_store.proofs.appending.add_steps.Goals as goal

pub loop-i-init : goal.loop-i-init
loop-i-init g c =
    let s = state g.S.Store c.args.tx.now.conn.now in
    record {
      reference = refl;
      survives = survives_nothing s;
      inside = λ clean inside. inside;
      kept = λ clean inside. keeps_nothing s;
      ran = λ clean inside has keyed. nothing_appended s inside has;
    }

pub loop-i-preserved : goal.loop-i-preserved
loop-i-preserved g c =
    let old = state g.S.Store c.args.tx.now.conn.now in
    let mid = state g.S.Store c.loop-i.tx.conn.now in
    let new = state g.S.Store c.add.new.tx.conn.now in
    let so_far = c.loop-i.invariant in
    let it = c.in_ok-add.ensures in
    let before = λ (clean : HasCleanDisk new). earlier mid new _ it.survives clean in
    record {
      reference = it.same_reference ∙ so_far.reference;
      survives = survives_both old mid new so_far.survives it.survives;
      inside = λ clean inside. it.inside clean (so_far.inside (before clean) inside);
      kept = λ clean inside. keeps_both old mid new (so_far.kept (before clean) inside) (it.kept clean (so_far.inside (before clean) inside));
      ran = λ clean inside has keyed.
          let ran = so_far.ran (before clean) inside has keyed in
          steps_then old mid new c.args.steps.now c.loop-i.i c.index-steps-i.result c.loop-i-test.true c.index-steps-i.is ran
          (it.added clean ran.inside ran.schema (keyed_after (take c.loop-i.i c.args.steps.now) old.now.trees mid.now.trees ran.changes keyed));
    }
