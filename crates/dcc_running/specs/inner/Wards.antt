-- Shards under locks begin with the acts at opening, and their acts only grow.
use Rattle.std.specs.Prelude.{◌≡◌, ℕ, ◌<◌, ◌≤◌, ◌⊎◌, Bool, true, false, List, length, slice_index_or}
use Rattle.std.specs.List.{AllZip, list_all}
use Rattle.dcc_act.specs.declared.act.Act.{Act}
use Rattle.dcc_act.specs.declared.sub.Sub.{Sub}
use Rattle.dcc_store.specs.Books.{Held}
use Rattle.dcc_receipts.specs.Audit.{own, times}
use Rattle.dcc_receipts.specs.declared.fault.CloseFault.{CloseFault}
use Rattle.dcc_receipts.specs.declared.fault.CloseFault.TheVariants.{Memory, ReceiptStray, ActWithoutReceipt, OutOfOrder}
use Rattle.dcc_receipts.specs.declared.receipt.Receipt.{Receipt}
use Rattle.dcc_running.specs.Audited.{WasBefore, WasStray, is_true}
use Rattle.dcc_running.specs.Books.{BeginWith}
use Rattle.dcc_running.specs.Told.{ToldView}
use Rattle.dcc_running.specs.inner.Told.{IsBefore}
use Rattle.dcc_running.specs.inner.Touches.{Touched, is_touched}
use Rattle.dcc_running.specs.declared.lock.Place.{Place}
use Rattle.dcc_running.specs.declared.lock.Side.{Side}
use Rattle.dcc_shard.specs.Batches.{IsBatch}
use Rattle.dcc_shard.specs.Routes.{shard_of}
use Rattle.dcc_shard.specs.Shards.{IsStep, ShardView, held}
use Rattle.dcc_shard.specs.Stored.{StoredView}
use Rattle.dcc_shard.specs.declared.call.Call.{Call}
use Rattle.dcc_shard.specs.declared.call.Reply.{Reply}

-- a shard under its lock, and the place of the lock under which it was put
pub record WardView (R : Type 0) : Type 0 where
  pub shard : ShardView
  pub records : R
  pub place : Place
  pub told : ToldView
  pub touches : Touched

-- the shard alone
abbrev pub shard_in : {R : Type 0} → WardView R → StoredView R
shard_in ward = record { shard = ward.shard; records = ward.records }

abbrev pub side_in : {R : Type 0} → WardView R → Side
side_in ward = record { place = ward.place; told = ward.told; touches = ward.touches }

-- these receipts agree with the acts that the shard holds, and have the answers by the outcomes of their acts
abbrev pub AreTold : {R : Type 0} → Held → StoredView R → List Receipt → Type 0
AreTold opening part told = list_all (is_true part.shard.identity part.shard.terms opening (held part.shard)) told ≡ true

-- the acts that the shard holds of each subscriber of this place begin with the subscriber's acts at opening
abbrev pub IsBegun : {R : Type 0} → Held → Place → StoredView R → Type 0
IsBegun opening place part = (sub : Sub) → shard_of sub place.count ≡ place.index → BeginWith (opening sub) (held part.shard sub)

-- each act of a subscriber since opening has exactly one fresh receipt that was audited
abbrev pub AreAllTold : Held → ShardView → List Receipt → Sub → Type 0
AreAllTold opening shard told sub = (place : ℕ) → length (opening sub) < place → place ≤ length (held shard sub) → times place (own sub told) ≡ 1

-- the same for each subscriber of this place of whom no call is counted
abbrev pub AreSettled : {R : Type 0} → Held → Place → StoredView R → Touched → List Receipt → Type 0
AreSettled opening place part touched told =
    (sub : Sub) → shard_of sub place.count ≡ place.index → is_touched touched sub ≡ false → AreAllTold opening part.shard told sub

-- a shard begins with the acts at opening at its place, the audited receipts are true of it, and each of its acts has one if no call is counted
abbrev pub IsBeside : {R : Type 0} → Held → Side → StoredView R → Type 0
IsBeside opening side part =
    IsBegun opening side.place part × AreTold opening part side.told.receipts × AreSettled opening side.place part side.touches side.told.receipts

abbrev pub AreBeside : {R : Type 0} → Held → List Side → List (StoredView R) → Type 0
AreBeside opening sides parts = AllZip (IsBeside opening) sides parts

-- the same for each of these shards, at the place of its index among so many
abbrev pub AreBegun : {R : Type 0} → Held → ℕ → List (StoredView R) → Type 0
AreBegun {R} opening count parts =
    (i : ℕ) (none : StoredView R) → i < length parts → IsBegun opening (record { index = i; count = count }) (slice_index_or parts i none)

-- acts were only added to those that a shard held of a subscriber, under the same terms and for the same server
pub record Grows (old new : ShardView) : Type 0 where
  pub acts : (sub : Sub) → BeginWith (held old sub) (held new sub)
  pub terms : new.terms ≡ old.terms
  pub identity : new.identity ≡ old.identity

-- each act that is judged next only adds acts
abbrev pub StepsGrow : ShardView → Type 0
StepsGrow old = (new : ShardView) (is_judged : Bool) (one : Sub) (act : Act) → IsStep old new is_judged one act → Grows old new

-- each batch that is made next only adds acts
abbrev pub BatchesGrow : ShardView → Type 0
BatchesGrow old = (new : ShardView) (calls : List Call) (replies : List Reply) → IsBatch old new calls replies → Grows old new

-- the reason for which a receipt is not told
abbrev pub IsTellFault : CloseFault → Held → ShardView → ToldView → ℕ → Receipt → Type 0
IsTellFault Memory opening shard told seat r = Unit {0}
IsTellFault ReceiptStray opening shard told seat r =
    (is_true shard.identity shard.terms opening (held shard) r ≡ false) ⊎ ((r.fresh ≡ true) × (times r.place (own r.sub told.receipts) ≡ 1))
IsTellFault ActWithoutReceipt opening shard told seat r = ⊥
IsTellFault OutOfOrder opening shard told seat r = IsBefore told seat r

-- the reason for which a receipt is not taken out of its seat; nothing is said if memory was short
abbrev pub IsToldFault : CloseFault → Held → Receipt → Type 0
IsToldFault Memory opening r = Unit {0}
IsToldFault ReceiptStray opening r = WasStray opening r
IsToldFault ActWithoutReceipt opening r = ⊥
IsToldFault OutOfOrder opening r = WasBefore r
