use Rattle.dcc_sqlite_store.specs.inner.Tallies.{tally_in}
use Rattle.dcc_sqlite_store.specs.inner.Steps.{tallies_after}
use Rattle.std.proofs.Common.{drop, ◌+◌}
use Rattle.dcc_sqlite_store.proofs.Batches.{places_stay, places_left, set_more}
use Rattle.dcc_sqlite_store.proofs.tally.set_tallies.Goals as goal

pub loop-step-preserved : goal.loop-step-preserved
loop-step-preserved c =
    let steps = c.args.steps.now in
    let i = c.loop-step.step-index in
    let places = places_left c.loop-step.tallies.entries steps i c.step-item.result c.loop-step-test.true c.step-item.is c.loop-step.invariant.places in
    record {
      places = places_stay c.loop-step.tallies.entries c.set_tally.new.tallies.entries (drop (i + 1) steps) c.set_tally.ensures.stays places.1;
      set =
          set_more steps i c.step-item.result c.sub.result c.next.result (tally_in c.loop-step.tallies.entries) (tally_in c.set_tally.new.tallies.entries)
          (tallies_after steps (tally_in c.args.tallies.now.entries)) c.loop-step-test.true c.step-item.is c.sub.ensures c.next.ensures c.set_tally.ensures.set c.loop-step.invariant.set;
    }
