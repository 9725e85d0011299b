use Rattle.std.proofs.Common.{◌≡◌, inl, inr, ap, IsTrue, Err, false, rules}
use Rattle.sqlite.specs.State.{HasCleanDisk}
use Rattle.sqlite.specs.Held.{state}
use Rattle.dcc_sqlite_store.specs.inner.Keeping.{KeepsBook}
use Rattle.dcc_sqlite_store.specs.inner.Steps.{steps_behind}
use Rattle.dcc_sqlite_store.proofs.Stopping.{Settles}
use Rattle.dcc_sqlite_store.proofs.Stores.{store_added}
use Rattle.dcc_sqlite_store.proofs.Grown.{kept_room, kept_back, refused_of, kept_ok, stored_of, crash_of}
use Rattle.dcc_sqlite_store.proofs.records.SqlRecordsRecords.append_all.Goals as goal

pub returns-then-self-clause-crash : goal.returns-then-self-clause-crash
returns-then-self-clause-crash g c = λ held only found left. inl (only found left)

pub invariant_of-self : goal.invariant_of-self
invariant_of-self g c =
    let was = c.args.self.now.conn in
    let now = c.store_batch.new.conn in
    let old = state g.S.Store was in
    let new = state g.S.Store now in
    let terms = c.args.self.now.terms in
    let tallies = c.args.self.now.tallies.entries in
    let batch = c.args.batch.now in
    let settles : Settles old = λ is_open db may. g.met.S.Store.settled was.store db is_open may in
    let settled : Settles new = λ is_open db may. g.met.S.Store.settled now.store db is_open may in
    let stays : IsTrue old.is_open → old.may_leave old.committed.trees = λ is_open. g.met.S.Store.stays was.store is_open in
    let going : c.args.self.now.stopped ≡ false = search rules in
    let kept : HasCleanDisk old → ∥ KeepsBook terms old tallies ∥₁ = c.args.self.now.kept going in
    let it = c.in-Ok.ensures in
    record { idle = it.mode; kept = λ _ clean. kept_ok terms old new tallies settles stays it.clean kept c.same_subscribers_are_equal.ensures c.records_differ.ensures.one c.batches_stand_apart.ensures.own c.new_acts_come_next.ensures.account batch c.requires.apart (λ found left. c.requires.next going found left) it.added c.store_batch.new.tallies.entries it.set clean; store = store_added terms old new tallies it.clean kept c.args.self.now.store (steps_behind tallies batch) stays it.crash }

pub returns-in-Ok-clause-stored : goal.returns-in-Ok-clause-stored
returns-in-Ok-clause-stored g c =
    let was = c.args.self.now.conn in
    let now = c.store_batch.new.conn in
    let old = state g.S.Store was in
    let new = state g.S.Store now in
    let terms = c.args.self.now.terms in
    let tallies = c.args.self.now.tallies.entries in
    let batch = c.args.batch.now in
    let settles : Settles old = λ is_open db may. g.met.S.Store.settled was.store db is_open may in
    let settled : Settles new = λ is_open db may. g.met.S.Store.settled now.store db is_open may in
    let stays : IsTrue old.is_open → old.may_leave old.committed.trees = λ is_open. g.met.S.Store.stays was.store is_open in
    let going : c.args.self.now.stopped ≡ false = search rules in
    let kept : HasCleanDisk old → ∥ KeepsBook terms old tallies ∥₁ = c.args.self.now.kept going in
    let it = c.in-Ok.ensures in
    stored_of terms old new tallies settles stays it.clean kept c.same_subscribers_are_equal.ensures c.records_differ.ensures.one c.batches_stand_apart.ensures.own c.new_acts_come_next.ensures.account batch c.requires.apart (λ found left. c.requires.next going found left) it.added settled

pub returns-in-Ok-clause-crash : goal.returns-in-Ok-clause-crash
returns-in-Ok-clause-crash g c =
    let was = c.args.self.now.conn in
    let now = c.store_batch.new.conn in
    let old = state g.S.Store was in
    let new = state g.S.Store now in
    let terms = c.args.self.now.terms in
    let tallies = c.args.self.now.tallies.entries in
    let batch = c.args.batch.now in
    let settles : Settles old = λ is_open db may. g.met.S.Store.settled was.store db is_open may in
    let settled : Settles new = λ is_open db may. g.met.S.Store.settled now.store db is_open may in
    let stays : IsTrue old.is_open → old.may_leave old.committed.trees = λ is_open. g.met.S.Store.stays was.store is_open in
    let going : c.args.self.now.stopped ≡ false = search rules in
    let kept : HasCleanDisk old → ∥ KeepsBook terms old tallies ∥₁ = c.args.self.now.kept going in
    let it = c.in-Ok.ensures in
    crash_of terms old new tallies settles stays it.clean kept c.same_subscribers_are_equal.ensures c.records_differ.ensures.one c.batches_stand_apart.ensures.own c.new_acts_come_next.ensures.account batch c.requires.apart (λ found left. c.requires.next going found left) it.crash

pub invariant_of-self-in-Err-Memory : goal.invariant_of-self-in-Err-Memory
invariant_of-self-in-Err-Memory g c =
    let was = c.args.self.now.conn in
    let now = c.store_batch.new.conn in
    let old = state g.S.Store was in
    let new = state g.S.Store now in
    let terms = c.args.self.now.terms in
    let tallies = c.args.self.now.tallies.entries in
    let batch = c.args.batch.now in
    let settles : Settles old = λ is_open db may. g.met.S.Store.settled was.store db is_open may in
    let settled : Settles new = λ is_open db may. g.met.S.Store.settled now.store db is_open may in
    let stays : IsTrue old.is_open → old.may_leave old.committed.trees = λ is_open. g.met.S.Store.stays was.store is_open in
    let going : c.args.self.now.stopped ≡ false = search rules in
    let kept : HasCleanDisk old → ∥ KeepsBook terms old tallies ∥₁ = c.args.self.now.kept going in
    let it = c.in-Err-Memory.ensures in
    record { idle = it.mode; kept = λ _ clean. kept_room terms new tallies c.store_batch.new.tallies.entries it.same (kept_back terms old new tallies settles stays it.clean kept (λ clean. elim (it.undone clean (ap Err c.in-Err-Memory.field-0-is)) [ inl u ↦ inl u | inr e ↦ inr (ap (state g.S.Store) e) ])) clean; store = store_added terms old new tallies it.clean kept c.args.self.now.store (steps_behind tallies batch) stays it.crash }

pub returns-in-Err-Memory-clause-refused : goal.returns-in-Err-Memory-clause-refused
returns-in-Err-Memory-clause-refused g c =
    let was = c.args.self.now.conn in
    let now = c.store_batch.new.conn in
    let old = state g.S.Store was in
    let new = state g.S.Store now in
    let terms = c.args.self.now.terms in
    let tallies = c.args.self.now.tallies.entries in
    let batch = c.args.batch.now in
    let settles : Settles old = λ is_open db may. g.met.S.Store.settled was.store db is_open may in
    let settled : Settles new = λ is_open db may. g.met.S.Store.settled now.store db is_open may in
    let stays : IsTrue old.is_open → old.may_leave old.committed.trees = λ is_open. g.met.S.Store.stays was.store is_open in
    let going : c.args.self.now.stopped ≡ false = search rules in
    let kept : HasCleanDisk old → ∥ KeepsBook terms old tallies ∥₁ = c.args.self.now.kept going in
    let it = c.in-Err-Memory.ensures in
    λ known only _. refused_of terms old new tallies settles stays it.clean kept c.records_differ.ensures.one settled (λ clean. elim (it.undone clean (ap Err c.in-Err-Memory.field-0-is)) [ inl u ↦ inl u | inr e ↦ inr (ap (state g.S.Store) e) ]) known only

pub returns-in-Err-Memory-clause-crash : goal.returns-in-Err-Memory-clause-crash
returns-in-Err-Memory-clause-crash g c =
    let was = c.args.self.now.conn in
    let now = c.store_batch.new.conn in
    let old = state g.S.Store was in
    let new = state g.S.Store now in
    let terms = c.args.self.now.terms in
    let tallies = c.args.self.now.tallies.entries in
    let batch = c.args.batch.now in
    let settles : Settles old = λ is_open db may. g.met.S.Store.settled was.store db is_open may in
    let settled : Settles new = λ is_open db may. g.met.S.Store.settled now.store db is_open may in
    let stays : IsTrue old.is_open → old.may_leave old.committed.trees = λ is_open. g.met.S.Store.stays was.store is_open in
    let going : c.args.self.now.stopped ≡ false = search rules in
    let kept : HasCleanDisk old → ∥ KeepsBook terms old tallies ∥₁ = c.args.self.now.kept going in
    let it = c.in-Err-Memory.ensures in
    crash_of terms old new tallies settles stays it.clean kept c.same_subscribers_are_equal.ensures c.records_differ.ensures.one c.batches_stand_apart.ensures.own c.new_acts_come_next.ensures.account batch c.requires.apart (λ found left. c.requires.next going found left) it.crash

pub returns-in-Err-clause-crash : goal.returns-in-Err-clause-crash
returns-in-Err-clause-crash g c =
    let was = c.args.self.now.conn in
    let now = c.store_batch.new.conn in
    let old = state g.S.Store was in
    let new = state g.S.Store now in
    let terms = c.args.self.now.terms in
    let tallies = c.args.self.now.tallies.entries in
    let batch = c.args.batch.now in
    let settles : Settles old = λ is_open db may. g.met.S.Store.settled was.store db is_open may in
    let settled : Settles new = λ is_open db may. g.met.S.Store.settled now.store db is_open may in
    let stays : IsTrue old.is_open → old.may_leave old.committed.trees = λ is_open. g.met.S.Store.stays was.store is_open in
    let going : c.args.self.now.stopped ≡ false = search rules in
    let kept : HasCleanDisk old → ∥ KeepsBook terms old tallies ∥₁ = c.args.self.now.kept going in
    let it = c.in-Err.ensures in
    crash_of terms old new tallies settles stays it.clean kept c.same_subscribers_are_equal.ensures c.records_differ.ensures.one c.batches_stand_apart.ensures.own c.new_acts_come_next.ensures.account batch c.requires.apart (λ found left. c.requires.next going found left) it.crash

pub invariant_of-self-in-Err : goal.invariant_of-self-in-Err
invariant_of-self-in-Err g c =
    let was = c.args.self.now.conn in
    let now = c.store_batch.new.conn in
    let old = state g.S.Store was in
    let new = state g.S.Store now in
    let terms = c.args.self.now.terms in
    let tallies = c.args.self.now.tallies.entries in
    let batch = c.args.batch.now in
    let settles : Settles old = λ is_open db may. g.met.S.Store.settled was.store db is_open may in
    let settled : Settles new = λ is_open db may. g.met.S.Store.settled now.store db is_open may in
    let stays : IsTrue old.is_open → old.may_leave old.committed.trees = λ is_open. g.met.S.Store.stays was.store is_open in
    let going : c.args.self.now.stopped ≡ false = search rules in
    let kept : HasCleanDisk old → ∥ KeepsBook terms old tallies ∥₁ = c.args.self.now.kept going in
    let it = c.in-Err.ensures in
    record { idle = it.mode; kept = λ e _. absurd cc; store = store_added terms old new tallies it.clean kept c.args.self.now.store (steps_behind tallies batch) stays it.crash }
