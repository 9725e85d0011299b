use Rattle.std.proofs.Common.{◌≡◌, inl, inr, Err, IsTrue, ap, rules}
use Rattle.sqlite.specs.Held.{state}
use Rattle.dcc_sqlite_store.specs.Tables.{layout}
use Rattle.dcc_sqlite_store.proofs.Stopping.{Settles}
use Rattle.dcc_sqlite_store.proofs.Opened.{finds_book, no_commit}
use Rattle.dcc_sqlite_store.proofs.Ordered.{no_book}
use Rattle.dcc_sqlite_store.proofs.Stores.{store_opened}
use Rattle.dcc_sqlite_store.proofs.sql_records.SqlRecords.open.Goals as goal

pub invariant_of-result : goal.invariant_of-result
invariant_of-result g c =
    let has : c.args.conn.schema ≡ layout = search rules in
    let old = state g.S.Store c.args.conn in
    let conn = c.open_store.new.conn in
    let settles : Settles (state g.S.Store conn) = λ is_open db may. g.met.S.Store.settled conn.store db is_open may in
    let alone : IsTrue c.is_autocommit.result = search rules in
    record {
      idle = c.in-Ok.ensures.mode;
      kept = λ _ clean. ∣ c.in-Ok.ensures.kept clean has ∣₁;
      store = λ clean. store_opened old (state g.S.Store conn) settles c.schema.ensures.live (c.in-Ok.ensures.was_open clean has) (c.is_autocommit.ensures.settled alone) has (c.in-Ok.ensures.still clean has (λ e. absurd cc));
    }

pub returns-in-Ok-clause-found : goal.returns-in-Ok-clause-found
returns-in-Ok-clause-found g c clean =
    let has : c.args.conn.schema ≡ layout = search rules in
    let old = state g.S.Store c.args.conn in
    let conn = c.open_store.new.conn in
    let settles : Settles (state g.S.Store conn) = λ is_open db may. g.met.S.Store.settled conn.store db is_open may in
    ∣ finds_book c.args.setting.now.terms old (state g.S.Store conn) c.in-Ok.tallies.entries settles (c.in-Ok.ensures.still clean has (λ e. absurd cc)) (c.in-Ok.ensures.kept clean has) ∣₁

pub returns-in-Ok-clause-setting : goal.returns-in-Ok-clause-setting
returns-in-Ok-clause-setting g c clean =
    let has : c.args.conn.schema ≡ layout = search rules in
    c.in-Ok.ensures.set clean has

pub returns-in-Ok-clause-still : goal.returns-in-Ok-clause-still
returns-in-Ok-clause-still g c clean =
    let has : c.args.conn.schema ≡ layout = search rules in
    c.in-Ok.ensures.still clean has (λ e. absurd cc)

pub returns-in-Ok-clause-crash : goal.returns-in-Ok-clause-crash
returns-in-Ok-clause-crash g c =
    let has : c.args.conn.schema ≡ layout = search rules in
    no_commit (state g.S.Store c.args.conn) (state g.S.Store c.open_store.new.conn) has c.in-Ok.ensures.crash

pub returns-in-Err-clause-other : goal.returns-in-Err-clause-other
returns-in-Err-clause-other g c is =
    let has : c.args.conn.schema ≡ layout = search rules in
    inr (has, λ clean. c.in-Err.ensures.other clean has (ap Err is))

pub returns-in-Err-clause-damaged : goal.returns-in-Err-clause-damaged
returns-in-Err-clause-damaged g c is clean =
    let has : c.args.conn.schema ≡ layout = search rules in
    c.in-Err.ensures.damaged clean has (ap Err is)

pub returns-in-Err-clause-disagree : goal.returns-in-Err-clause-disagree
returns-in-Err-clause-disagree g c is clean =
    let has : c.args.conn.schema ≡ layout = search rules in
    c.in-Err.ensures.disagree clean has (ap Err is)

pub returns-in-Err-clause-ours : goal.returns-in-Err-clause-ours
returns-in-Err-clause-ours g c is =
    let has : c.args.conn.schema ≡ layout = search rules in (
      has,
      λ clean. c.in-Err.ensures.ours clean has (elim is [
        | inl damaged ↦ inl (ap Err damaged)
        | inr disagree ↦ inr (ap Err disagree)
      ]),
    )

pub returns-in-Err-clause-undone : goal.returns-in-Err-clause-undone
returns-in-Err-clause-undone g c other clean =
    let has : c.args.conn.schema ≡ layout = search rules in
    inr (c.in-Err.ensures.still clean has (λ e. other (let same = e in cc)))

pub returns-in-Err-clause-left : goal.returns-in-Err-clause-left
returns-in-Err-clause-left g c =
    let has : c.args.conn.schema ≡ layout = search rules in
    no_commit (state g.S.Store c.args.conn) (state g.S.Store c.open_store.new.conn) has c.in-Err.ensures.crash

pub returns-in-Err-clause-whole : goal.returns-in-Err-clause-whole
returns-in-Err-clause-whole g c is clean held =
    let has : c.args.conn.schema ≡ layout = search rules in
    no_book c.books_have_pages.ensures.pages c.books_have_pages.ensures.whole c.args.setting.now.terms (state g.S.Store c.args.conn).now.trees (elim is [
      | inl damaged ↦ inl (c.in-Err.ensures.damaged clean has (ap Err damaged))
      | inr disagree ↦ inr (c.in-Err.ensures.disagree clean has (ap Err disagree))
    ]) held
