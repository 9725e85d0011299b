use Rattle.std.proofs.Common.{◌≡◌, drop}
use Rattle.dcc_act.specs.declared.sub.Sub.{Sub}
use Rattle.dcc_sqlite_store.specs.inner.Tallies.{tally_in}
use Rattle.dcc_sqlite_store.specs.inner.Steps.{HavePlaces, tallies_after}
use Rattle.dcc_sqlite_store.proofs.tally.set_tallies.Given as goal

abbrev pub invariant-loop-step : goal.invariant-loop-step
invariant-loop-step l = record {
  places : HavePlaces l.tallies.entries (drop l.step-index l.steps);
  set : (other : Sub) → tallies_after (drop l.step-index l.steps) (tally_in l.tallies.entries) other ≡ tallies_after l.steps (tally_in l.initial.tallies.entries) other;
}
