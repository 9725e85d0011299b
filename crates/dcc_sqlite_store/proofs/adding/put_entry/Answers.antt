use Rattle.std.proofs.Common.{w64, inl, inr, None, Some}
use Rattle.std.proofs.lemmas.Int.{to_z-of_z}
use Rattle.sqlite.specs.Held.{state}
use Rattle.dcc_sqlite_store.proofs.Inserts.{adds_entry}
use Rattle.dcc_sqlite_store.proofs.Steps.{cases_option}
use Rattle.dcc_sqlite_store.proofs.adding.put_entry.Goals as goal

pub returns-clause-added : goal.returns-clause-added
returns-clause-added g c clean inside has =
    let old = state g.S.Store c.args.tx.now.conn.now in
    let new = state g.S.Store c.execute.new.self.conn.now in
    elim (cases_option c.args.group) [
      | inl none ↦ rw none (adds_entry old new c.args.sub.now c.args.place c.args.line c.args.kind None c.args.units c.args.amount c.in_ok-execute.field-0 has
          (rw (c.params-to_sql.ensures, c.params-to_sql-2.ensures, c.params-to_sql-3.ensures, c.params-to_sql-4.ensures, c.params-to_sql-5.ensures, c.params-to_sql-6.ensures, c.params-to_sql-7.ensures, none, to_z-of_z w64 c.args.units c.ranges.units, to_z-of_z w64 c.args.amount c.ranges.amount) at c.in_ok-execute.ensures.runs clean inside))
      | inr some ↦ rw some.1 (adds_entry old new c.args.sub.now c.args.place c.args.line c.args.kind (Some some.0) c.args.units c.args.amount c.in_ok-execute.field-0 has
          (rw (c.params-to_sql.ensures, c.params-to_sql-2.ensures, c.params-to_sql-3.ensures, c.params-to_sql-4.ensures, c.params-to_sql-5.ensures, c.params-to_sql-6.ensures, c.params-to_sql-7.ensures, some.1, to_z-of_z w64 c.args.units c.ranges.units, to_z-of_z w64 c.args.amount c.ranges.amount) at c.in_ok-execute.ensures.runs clean inside))
    ]
