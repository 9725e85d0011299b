-- The tests of the receipts of all seats against the books.
use Rattle.std.specs.Prelude.{◌≡◌, ℕ, ◌<◌, ◌≤◌, Bool, true, false, ◌&&◌, ◌⊎◌, List, [], ◌∷◌, ◌++◌, length, slice_index_or}
use Rattle.std.specs.List.{AllByRecursion, list_all, sum_by}
use Rattle.dcc_tariff.specs.Terms.{TermsView}
use Rattle.dcc_message.specs.declared.identity.Identity.{Identity}
use Rattle.dcc_act.specs.declared.sub.Sub.{Sub}
use Rattle.dcc_model.specs.Outcomes.{acts}
use Rattle.dcc_receipts.specs.Audit.{own, agrees, is_answered, times, in_order}
use Rattle.dcc_receipts.specs.declared.fault.CloseFault.{CloseFault}
use Rattle.dcc_receipts.specs.declared.fault.CloseFault.TheVariants.{Memory, ReceiptStray, ActWithoutReceipt, OutOfOrder}
use Rattle.dcc_receipts.specs.declared.receipt.Receipt.{Receipt}
use Rattle.dcc_shard.specs.Shards.{ShardView, held}
use Rattle.dcc_store.specs.Books.{Held}
use Rattle.dcc_running.specs.Books.{BooksView, AreShards, BeginWith, HaveOwnPlaces, book, told_in}
use Rattle.dcc_running.specs.Told.{ToldView, told_of}
use Rattle.dcc_running.specs.declared.lock.Side.{Side}

-- a receipt agrees with its subscriber's acts, of which the first were there at opening, and has the answer by the outcome of its act
abbrev pub is_true : Identity → TermsView → Held → Held → Receipt → Bool
is_true identity terms opening held r = agrees (length (opening r.sub)) (held r.sub) r && is_answered identity terms (held r.sub) r

abbrev pub are_true : Identity → TermsView → Held → Held → List (List Receipt) → Bool
are_true identity terms opening held seats = list_all (λ receipts. list_all (is_true identity terms opening held) receipts) seats

-- the number of fresh receipts that all seats have of a subscriber's place
abbrev pub times_in : Sub → ℕ → List (List Receipt) → ℕ
times_in sub place seats = sum_by (λ receipts. times place (own sub receipts)) seats

-- the receipts that were audited while the shards were under locks, and those of the seats
abbrev pub all_of : {R : Type 0} → BooksView R → List (List Receipt) → List (List Receipt)
all_of books seats = told_in books.sides ++ seats

-- Each shard came out of its own lock, the shards may work as one, each subscriber's acts begin with the acts at opening, each receipt is true, and
-- no place has two fresh receipts.
pub record AreTrue {R : Type 0} (opening : Held) (books : BooksView R) (seats : List (List Receipt)) : Type 0 where
  pub own : HaveOwnPlaces books.sides
  pub shards : AreShards books.terms books.identity books.parts
  pub begun : (sub : Sub) → BeginWith (opening sub) (book books.parts sub)
  pub true_all : are_true books.identity books.terms opening (book books.parts) (all_of books seats) ≡ true
  pub single : (sub : Sub) (place : ℕ) → times_in sub place (all_of books seats) ≤ 1

-- a receipt agreed, when it was audited, with the acts that some shard held, and had the answer by the outcome of its act
abbrev pub WasTrue : Held → Receipt → Type 0
WasTrue opening r = (shard : ShardView) × (is_true shard.identity shard.terms opening (held shard) r ≡ true)

abbrev pub WereTrue : Held → List Receipt → Type 0
WereTrue opening receipts = AllByRecursion (WasTrue opening) receipts

-- Receipts of a seat were taken out, from its front: each was true when it was audited.
abbrev pub IsAudited : Held → List Receipt → List Receipt → Type 0
IsAudited opening before after = (told : List Receipt) × (before ≡ told ++ after) × WereTrue opening told

-- A receipt was not true of the acts of some shard, or its place had one fresh receipt among some receipts. Of a locked shard contracts know the type alone, so
-- shard and receipts may be any: this refuses no body that reports a true receipt. `Ward::tell` (fault) speaks of the locked shard.
abbrev pub WasStray : Held → Receipt → Type 0
WasStray opening r = (shard : ShardView) × (told : List Receipt)
    × ((is_true shard.identity shard.terms opening (held shard) r ≡ false) ⊎ ((r.fresh ≡ true) × (times r.place (own r.sub told) ≡ 1)))

-- each act since opening has exactly one fresh receipt
abbrev pub AreCovered : {R : Type 0} → (opening : Held) → BooksView R → List (List Receipt) → Type 0
AreCovered opening books seats = (sub : Sub) (place : ℕ) → length (opening sub) < place → place ≤ length (book books.parts sub)
    → times_in sub place (all_of books seats) ≡ 1

-- each of these receipts is after all earlier receipts of the same subscriber
abbrev pub IsOrdered : List Receipt → Type 0
IsOrdered receipts = (sub : Sub) → in_order [] (own sub receipts) ≡ true

-- the receipts of each seat: those that a shard's audits took out of it, and behind them those that it has. The number of a seat is its index among the seats.
abbrev pub IsOrderedIn : ToldView → List (List Receipt) → Type 0
IsOrderedIn told seats = (seat : ℕ) → IsOrdered (told_of seat told ++ slice_index_or seats seat [])

-- for each shard: each receipt of a seat is after all earlier receipts of the same subscriber in the seat, over all audits and those that are left
abbrev pub AreOrdered : List Side → List (List Receipt) → Type 0
AreOrdered sides seats = (i : ℕ) (none : Side) → i < length sides → IsOrderedIn (slice_index_or sides i none).told seats

-- A receipt was not after some receipts of a seat, which may be any, as of WasStray. `Ward::tell` (fault) speaks of the locked shard.
abbrev pub WasBefore : Receipt → Type 0
WasBefore r = (told : List Receipt) × (in_order [] (own r.sub (told ++ r ∷ [])) ≡ false)

-- an act of the subscriber since opening has no receipt among some receipts
abbrev pub HasUntold : Held → ShardView → List Receipt → Sub → Type 0
HasUntold opening shard told sub =
    (place : ℕ) × (length (opening sub) < place) × (place ≤ length (held shard sub)) × (times place (own sub told) ≡ 0)

-- the same of some shard, some receipts and some subscriber, as of WasStray. `Ward::settle` (untold) speaks of the locked shard.
abbrev pub WasUntold : Held → Type 0
WasUntold opening = (shard : ShardView) × (told : List Receipt) × (sub : Sub) × HasUntold opening shard told sub

-- the first that stays
abbrev pub FirstStays : (Receipt → Type 0) → List Receipt → Type 0
FirstStays P after = (r : Receipt) × (behind : List Receipt) × (after ≡ r ∷ behind) × P r

-- The reason for which an audit of a seat fails, by the receipts before and after it. 60: the receipts are in order, some stay, and of the first that stays WasStray
-- holds. 61: the receipts are in order, none stays, and WasUntold holds. 62: the receipts are not in order, and all stay; or they are, some stay, and of the first
-- that stays WasBefore holds. Nothing is said if memory was short.
abbrev pub IsAuditFault : CloseFault → Held → List Receipt → List Receipt → Type 0
IsAuditFault Memory opening before after = Unit {0}
IsAuditFault ReceiptStray opening before after = IsOrdered before × FirstStays (WasStray opening) after
IsAuditFault ActWithoutReceipt opening before after = IsOrdered before × (after ≡ []) × WasUntold opening
IsAuditFault OutOfOrder opening before after = ((after ≡ before) × (IsOrdered before → ⊥)) ⊎ (IsOrdered before × FirstStays WasBefore after)

-- the reason for which the comparison fails: its first test that doesn't hold; nothing is said if memory was short
abbrev pub IsFault : {R : Type 0} → CloseFault → (opening : Held) → BooksView R → List (List Receipt) → Type 0
IsFault Memory opening books seats = Unit {0}
IsFault ReceiptStray opening books seats = AreTrue opening books seats → ⊥
IsFault ActWithoutReceipt opening books seats = AreTrue opening books seats × (AreCovered opening books seats → ⊥)
IsFault OutOfOrder opening books seats = AreTrue opening books seats × AreCovered opening books seats × (AreOrdered books.sides seats → ⊥)

-- the acts of each subscriber are exactly those that their own list makes
abbrev pub AreOwn : {R : Type 0} → BooksView R → Type 0
AreOwn books = (sub : Sub) → acts books.terms (book books.parts sub) ≡ book books.parts sub
