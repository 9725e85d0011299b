use Rattle.std.proofs.Common.{◌≡◌, refl, ◌∙◌, get_or, rules, ◌+◌}
use Rattle.sqlite.specs.Held.{state}
use Rattle.sqlite.specs.State.{HasCleanDisk}
use Rattle.dcc_sqlite_store.proofs.Steps.{nothing_run, survives_nothing, survives_both, keeps_nothing, keeps_both, earlier, one_more}
use Rattle.dcc_sqlite_store.proofs.adding.add_entries.Goals as goal

pub loop-i-init : goal.loop-i-init
loop-i-init g c =
    let s = state g.S.Store c.args.tx.now.conn.now in
    (refl, survives_nothing s, λ clean inside. (inside, keeps_nothing s), λ clean inside has. nothing_run s inside has)

pub loop-i-preserved : goal.loop-i-preserved
loop-i-preserved g c =
    let old = state g.S.Store c.args.tx.now.conn.now in
    let mid = state g.S.Store c.loop-i.tx.conn.now in
    let new = state g.S.Store c.add_entry.new.tx.conn.now in
    let so_far = c.loop-i.invariant in
    let it = c.in_ok-add_entry.ensures in
    let line : c.in-Ok.line ≡ c.loop-i.i + 1 = search rules in
    let at : c.index-entries-i.result ≡ get_or c.args.entries.now c.loop-i.i c.index-entries-i.result = search rules in
    let before = λ (clean : HasCleanDisk new). earlier mid new _ it.survives clean in (
      it.same_reference ∙ so_far.0,
      survives_both old mid new so_far.1 it.survives,
      λ clean inside. (it.inside clean (so_far.2 (before clean) inside).0, keeps_both old mid new (so_far.2 (before clean) inside).1 (it.kept clean (so_far.2 (before clean) inside).0)),
      λ clean inside has.
          let ran = so_far.3 (before clean) inside has in
          one_more old mid new c.args.sub.now c.args.place c.args.entries.now c.loop-i.i c.index-entries-i.result c.loop-i-test.true ran
          (rw (← line, ← at) (it.added clean (so_far.2 (before clean) inside).0 ran.schema)),
    )
