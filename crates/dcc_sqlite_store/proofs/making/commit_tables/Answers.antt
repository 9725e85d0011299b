use Rattle.std.proofs.Common.{◌≡◌, rules, IsTrue, refl, true}
use Rattle.std.proofs.lemmas.Result.{err_from_is_err_and}
use Rattle.sqlite.specs.State.{HasCleanDisk}
use Rattle.sqlite.specs.Held.{state}
use Rattle.dcc_sqlite_store.proofs.Steps.{earlier, undone}
use Rattle.dcc_sqlite_store.proofs.making.commit_tables.Goals as goal

pub returns-in_err-commit-clause-undone : goal.returns-in_err-commit-clause-undone
returns-in_err-commit-clause-undone g c clean is_open =
    let old = state g.S.Store c.args.conn.now in
    let mid = state g.S.Store c.make_tables.new.tx.conn.now in
    let end = c.commit.new.self.0 in
    let same : end ≡ c.conn-2-1.given.0 = search rules in
    let late : HasCleanDisk (state g.S.Store end) = search rules in
    let opened : IsTrue (state g.S.Store end).is_open = search rules in
    let early : HasCleanDisk mid = earlier mid (state g.S.Store end) _ c.commit.ensures.survives late in
    let kept = (rw c.transaction-tx.ensures.begun at c.in_ok-make_tables.ensures.kept early) refl in
    let inside = (rw c.transaction-tx.ensures.begun at c.in_ok-make_tables.ensures.inside early) refl in
    let it = undone (state g.S.Store (record c.args.conn.now { in_transaction = true })) mid (state g.S.Store end) c.in_err-commit.field-0.0 kept inside (c.in_err-commit.ensures.err late) opened in
    let p = err_from_is_err_and c.from_residual-in_err-commit.result c.from_residual-in_err-commit.ensures.1 in
    rw (p.1, ← same) it
