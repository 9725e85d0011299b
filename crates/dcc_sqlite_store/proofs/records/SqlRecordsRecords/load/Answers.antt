use Rattle.std.proofs.Common.{◌≡◌, false, rules}
use Rattle.sqlite.specs.Held.{state}
use Rattle.dcc_store.specs.Books.{acts_in}
use Rattle.dcc_sqlite_store.proofs.Stopping.{Settles}
use Rattle.dcc_sqlite_store.proofs.Stores.{store_read}
use Rattle.dcc_sqlite_store.proofs.Loads.{left_before, kept_still, found_only, found_there}
use Rattle.dcc_sqlite_store.proofs.records.SqlRecordsRecords.load.Goals as goal

pub returns-in-Ok-clause-found : goal.returns-in-Ok-clause-found
returns-in-Ok-clause-found g c =
    let r = c.args.self.now in
    let now = c.load_book.new.conn in
    let going : r.stopped ≡ false = search rules in
    let it = c.in-Ok.ensures in
    let settled : Settles (state g.S.Store now) = λ is_open db may. g.met.S.Store.settled now.store db is_open may in
    found_only r.terms (state g.S.Store r.conn) (state g.S.Store now) r.tallies.entries it.clean (r.kept going) (λ clean has settles. it.still clean has settles (λ e. absurd cc)) c.records_differ.ensures.one (acts_in c.in-Ok.book) it.acts settled

pub returns-in-Ok-clause-there : goal.returns-in-Ok-clause-there
returns-in-Ok-clause-there g c honest =
    let r = c.args.self.now in
    let now = c.load_book.new.conn in
    let going : r.stopped ≡ false = search rules in
    let it = c.in-Ok.ensures in
    found_there r.terms (state g.S.Store r.conn) (state g.S.Store now) r.tallies.entries it.clean (r.kept going) (λ clean has settles. it.still clean has settles (λ e. absurd cc)) c.records_differ.ensures.one (acts_in c.in-Ok.book) it.acts
    (λ is_open. g.met.S.Store.stays now.store is_open) honest.0

pub returns-in-Ok-clause-same : goal.returns-in-Ok-clause-same
returns-in-Ok-clause-same g c =
    let r = c.args.self.now in
    let going : r.stopped ≡ false = search rules in
    left_before r.terms (state g.S.Store r.conn) (state g.S.Store c.load_book.new.conn) r.tallies.entries c.in-Ok.ensures.clean (r.kept going) c.in-Ok.ensures.crash

pub returns-in-Err-Memory-clause-same : goal.returns-in-Err-Memory-clause-same
returns-in-Err-Memory-clause-same g c =
    let r = c.args.self.now in
    let going : r.stopped ≡ false = search rules in
    left_before r.terms (state g.S.Store r.conn) (state g.S.Store c.load_book.new.conn) r.tallies.entries c.in-Err-Memory.ensures.clean (r.kept going) c.in-Err-Memory.ensures.crash

pub returns-in-Err-clause-same : goal.returns-in-Err-clause-same
returns-in-Err-clause-same g c =
    let r = c.args.self.now in
    let going : r.stopped ≡ false = search rules in
    left_before r.terms (state g.S.Store r.conn) (state g.S.Store c.load_book.new.conn) r.tallies.entries c.in-Err.ensures.clean (r.kept going) c.in-Err.ensures.crash

pub invariant_of-self : goal.invariant_of-self
invariant_of-self g c =
    let r = c.args.self.now in
    let it = c.in-Ok.ensures in
    let going : r.stopped ≡ false = search rules in
    record { idle = it.mode; kept = λ going. kept_still r.terms (state g.S.Store r.conn) (state g.S.Store c.load_book.new.conn) r.tallies.entries it.clean (r.kept going) (λ clean has settles. it.still clean has settles (λ e. absurd cc)); store = store_read r.terms (state g.S.Store r.conn) (state g.S.Store c.load_book.new.conn) r.tallies.entries it.clean (r.kept going) r.store it.crash }

pub invariant_of-self-in-Err-Memory : goal.invariant_of-self-in-Err-Memory
invariant_of-self-in-Err-Memory g c =
    let r = c.args.self.now in
    let it = c.in-Err-Memory.ensures in
    let going : r.stopped ≡ false = search rules in
    record { idle = it.mode; kept = λ going. kept_still r.terms (state g.S.Store r.conn) (state g.S.Store c.load_book.new.conn) r.tallies.entries it.clean (r.kept going) (λ clean has settles. it.still clean has settles (λ e. absurd (let k = c.in-Err-Memory.field-0-is in cc))); store = store_read r.terms (state g.S.Store r.conn) (state g.S.Store c.load_book.new.conn) r.tallies.entries it.clean (r.kept going) r.store it.crash }

pub invariant_of-self-in-Err : goal.invariant_of-self-in-Err
invariant_of-self-in-Err g c =
    let r = c.args.self.now in
    let going : r.stopped ≡ false = search rules in
    let it = c.in-Err.ensures in
    record { idle = it.mode; kept = λ e _. absurd cc; store = store_read r.terms (state g.S.Store r.conn) (state g.S.Store c.load_book.new.conn) r.tallies.entries it.clean (r.kept going) r.store it.crash }
