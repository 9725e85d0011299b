use Rattle.std.proofs.Common.{◌≡◌, drop}
use Rattle.dcc_act.specs.declared.sub.Sub.{Sub}
use Rattle.dcc_store.specs.Batches.{with_all}
use Rattle.dcc_store.specs.inner.Rows.{acts_at, held_in}
use Rattle.dcc_store.proofs.row.rows_of.Given as goal

abbrev pub invariant-loop-one : goal.invariant-loop-one
invariant-loop-one l = (sub : Sub) → with_all (drop l.one-index l.log) (acts_at l.rows.entries) sub ≡ held_in l.log sub
