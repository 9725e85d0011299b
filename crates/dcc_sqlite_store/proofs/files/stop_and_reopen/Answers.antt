use Rattle.std.proofs.Common.{◌∙◌, inl, inr, arith}
use Rattle.std.proofs.Math.Logic.{∥∥₁_elim, ∥∥₁_map}
use Rattle.std.proofs.Props.{props}
use Rattle.sqlite.specs.State.{HasCleanDisk}
use Rattle.sqlite.specs.Files.{file_state}
use Rattle.dcc_sqlite_store.proofs.Opened.{left_by_stop, refused_after}
use Rattle.dcc_sqlite_store.proofs.files.stop_and_reopen.Goals as goal

pub returns-in-Ok-open-clause-found : goal.returns-in-Ok-open-clause-found
returns-in-Ok-open-clause-found g c was same found left =
    let records = c.in-Ok-open.records in
    let early : HasCleanDisk (file_state c.in-Ok.again) = omega (arith, c.in-Ok-open.ensures.crash.clean, left.0) in
    ∥∥₁_elim ((rw c.into_connection-conn.ensures.same at c.in-Ok.ensures.found) early) (hlevel props)
    (λ may. ∥∥₁_map (c.in-Ok-open.ensures.found left.0)
    (λ book. left_by_stop records.terms c.args.records.terms (file_state c.args.records.conn) (file_state c.in-Ok.again) (file_state records.conn) c.records_differ.ensures.one (c.in-Ok-open.ensures.terms ∙ same) was may book found left))

pub returns-in-Err-open-clause-whole : goal.returns-in-Err-open-clause-whole
returns-in-Err-open-clause-whole g c was same one other either clean =
    let failed = c.in-Err-open.ensures in
    let again = c.in-Ok.again in
    let early : HasCleanDisk (file_state again) = omega (arith, failed.left.clean, clean) in
    let before = file_state c.args.records.conn in
    let may = (rw c.into_connection-conn.ensures.same at c.in-Ok.ensures.found) early in
    let store = (rw c.into_connection-conn.ensures.same at c.into_connection-conn.ensures.store) was in
    refused_after c.args.records.terms before (file_state again) c.args.setting.now c.in-Err-open.fault one other (c.in-Ok.ensures.opened early) was may store same either
    (λ is. (failed.empty is).0)
    (λ is. elim (failed.other is) [ inl none ↦ inl none.1 | inr mine ↦ inr (mine.1 clean) ])
    (λ is held. failed.whole is clean held)
