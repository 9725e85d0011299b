use Rattle.std.proofs.Common.{◌≡◌, ◌≤◌, length, take, vec_capacity}
use Rattle.dcc_act.specs.declared.sub.Sub.{Sub}
use Rattle.dcc_sqlite_store.specs.inner.Tallies.{tally_in}
use Rattle.dcc_sqlite_store.specs.inner.Steps.{steps_behind, HavePlaces}
use Rattle.dcc_sqlite_store.proofs.appending.steps_of.Given as goal

abbrev pub invariant-loop-one : goal.invariant-loop-one
invariant-loop-one l = record {
  same : (other : Sub) → tally_in l.tallies.entries other ≡ tally_in l.initial.tallies.entries other;
  made : l.steps.items ≡ steps_behind l.initial.tallies.entries (take l.one-index l.batch);
  places : HavePlaces l.tallies.entries l.steps.items;
  room : length l.batch ≤ vec_capacity l.steps;
}
