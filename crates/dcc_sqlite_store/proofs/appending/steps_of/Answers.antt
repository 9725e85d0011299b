use Rattle.std.proofs.Common.{sym, subst, ◌∙◌, List}
use Rattle.dcc_sqlite_store.specs.inner.Steps.{StepView, HavePlaces}
use Rattle.dcc_sqlite_store.proofs.Batches.{places_stay, places_push, step_more}
use Rattle.dcc_sqlite_store.proofs.appending.steps_of.Goals as goal

pub loop-one-preserved : goal.loop-one-preserved
loop-one-preserved c =
    let so_far = c.loop-one.invariant in
    let it = c.in_ok-step.ensures in
    let P : List StepView → Type 0 = HavePlaces c.placed_step.new.tallies.entries in
    record {
      same = λ other. it.same other ∙ so_far.same other;
      made =
          step_more c.args.tallies.now.entries c.loop-one.tallies.entries c.args.batch.now c.loop-one.one-index c.one-item.result c.loop-one.steps.items c.push_reserved.new.self.items
          c.in_ok-step.step c.loop-one-test.true c.one-item.is so_far.same so_far.made it.step c.push_reserved.ensures.items;
      places =
          subst P (sym c.push_reserved.ensures.items)
          (places_push c.placed_step.new.tallies.entries c.loop-one.steps.items c.in_ok-step.step
          (places_stay c.loop-one.tallies.entries c.placed_step.new.tallies.entries c.loop-one.steps.items it.stays so_far.places) (rw it.step it.place));
      room = rw c.push_reserved.ensures.capacity so_far.room;
    }
