use Rattle.std.proofs.Common.{◌≡◌, rules}
use Rattle.sqlite.specs.Held.{state}
use Rattle.dcc_store.specs.Books.{no_acts}
use Rattle.dcc_sqlite_store.specs.Tables.{no_schema}
use Rattle.sqlite.proofs.StateLemmas.{survives_weaker}
use Rattle.dcc_sqlite_store.specs.Setting.{IsFirst}
use Rattle.dcc_sqlite_store.proofs.Stopping.{Settles, only_kept}
use Rattle.dcc_sqlite_store.proofs.Stores.{store_made}
use Rattle.dcc_sqlite_store.proofs.First.{keeps_nothing, first_book, without_setting}
use Rattle.dcc_sqlite_store.proofs.sql_records.SqlRecords.create.Goals as goal

pub invariant_of-result : goal.invariant_of-result
invariant_of-result g c =
    let old = state g.S.Store c.args.conn in
    let new = state g.S.Store c.make_store.new.conn in
    let blank : c.args.conn.schema ≡ no_schema = search rules in
    let terms = c.args.setting.now.terms in
    let conn = c.make_store.new.conn in
    let settled : Settles new = λ is_open db may. g.met.S.Store.settled conn.store db is_open may in
    record {
      idle = c.in-Ok.ensures.mode;
      store = λ clean. store_made old new settled c.args.setting.now (c.in-Ok.ensures.made clean blank);
      kept = λ _ clean. rw c.new.ensures.empty (∣ first_book terms old new c.leaving_out_changes_nothing.ensures.none c.funds_are_accounted_for.ensures.entries (without_setting c.args.setting.now old new (c.in-Ok.ensures.made clean blank)) ∣₁);
    }

pub returns-in-Ok-clause-empty : goal.returns-in-Ok-clause-empty
returns-in-Ok-clause-empty g c =
    let old = state g.S.Store c.args.conn in
    let conn = c.make_store.new.conn in
    let new = state g.S.Store conn in
    let blank : c.args.conn.schema ≡ no_schema = search rules in
    let settled : Settles new = λ is_open db may. g.met.S.Store.settled conn.store db is_open may in
    let terms = c.args.setting.now.terms in
    λ found left. only_kept terms new no_acts settled (keeps_nothing terms old new c.leaving_out_changes_nothing.ensures.none (without_setting c.args.setting.now old new (c.in-Ok.ensures.made left.0 blank))) found left

pub returns-in-Err-clause-left : goal.returns-in-Err-clause-left
returns-in-Err-clause-left g c =
    let blank : c.args.conn.schema ≡ no_schema = search rules in
    survives_weaker (state g.S.Store c.args.conn) (state g.S.Store c.make_store.new.conn) (IsFirst c.args.setting.now) (λ db. (c.args.conn.schema ≡ no_schema) × IsFirst c.args.setting.now db) (λ _ db first. (blank, first)) (c.in-Err.ensures.crash blank)
