-- The work of a shard's worker.
use Rattle.std.specs.Prelude.{◌≡◌, ℕ, ◌+◌, ◌≤◌, Bool, true, false, List, [], ◌++◌, ◌⊎◌, count_by, drop, filter_map, length, take, Option, Some, None}
use Rattle.std.specs.List.{FoldsTo}
use Rattle.std.specs.List.Sorted.{IsStrictlySortedBy}
use Rattle.dcc_act.specs.declared.sub.Sub.{Sub}
use Rattle.dcc_connect.specs.Writing.{items_of}
use Rattle.dcc_connect.specs.declared.writing.Item.{Item}
use Rattle.dcc_connect.specs.declared.writing.Item.TheVariants.{Octets, End}
use Rattle.dcc_lane.specs.Ends.{IsSameReceiver, taken_of}
use Rattle.dcc_receipts.specs.declared.receipt.Receipt.{Receipt}
use Rattle.dcc_store.specs.Books.{Held, sub_order}
use Rattle.dcc_running.specs.Audited.{WereTrue}
use Rattle.dcc_running.specs.Calls.{AreSubs, IsAnswerTo, IsEndOf, receipts_of, expiry_receipts}
use Rattle.dcc_shard.specs.Answers.{IsToldApart}
use Rattle.dcc_shard.specs.declared.answers.ExpiryAnswer.{ExpiryAnswer}
use Rattle.dcc_shard.specs.declared.answers.RequestAnswer.{RequestAnswer}
use Rattle.dcc_shard.specs.declared.answers.RequestAnswer.TheVariants as answers
use Rattle.dcc_rounds.specs.Handing.{one_more}
use Rattle.dcc_rounds.specs.Lanes.{all_put, lanes_of, put_into}
use Rattle.dcc_rounds.specs.declared.counter.CallCounter.{CallCounter}
use Rattle.dcc_rounds.specs.declared.rest.Rest.{Rest}
use Rattle.dcc_rounds.specs.declared.work.Request.{Request}
use Rattle.dcc_rounds.specs.declared.work.Work.{Work}
use Rattle.dcc_rounds.specs.declared.work.Work.TheVariants as work
use Rattle.dcc_rounds.specs.declared.worker.Worker.{Worker}

-- the receipts that a worker keeps, the items that it put for each gateway, the moment of its last sweep, the subscribers that this sweep has still
-- to ask, and the counter of its calls
pub record Doing : Type 0 where
  pub told : List Receipt
  pub put : List (List Item)
  pub moment : ℕ
  pub left : List Sub
  pub counter : CallCounter

-- the listed subscribers that are not asked yet
abbrev pub left_of : Rest → List Sub
left_of rest = drop rest.asked rest.subs.items

-- the counter says how many subscribers are left
abbrev pub IsCounted : CallCounter → Rest → Type 0
IsCounted counter rest = counter.left + rest.asked ≡ length rest.subs.items

abbrev pub doing_of : Worker → Rest → Doing
doing_of worker rest = record {
  told = worker.seat;
  put = all_put worker.writers.items;
  moment = rest.moment;
  left = left_of rest;
  counter = worker.counter;
}

-- the octets of an answer, if it has any
abbrev pub octets_in : RequestAnswer → Option (List ℕ)
octets_in (answers.Done octets at fresh) = Some octets
octets_in (answers.Unknown octets) = Some octets
octets_in (answers.Busy octets) = Some octets
octets_in answers.Silent = None

-- the octets of an answer go to the gateway that asked, and to no other
abbrev pub put_answer : ℕ → Option (List ℕ) → List (List Item) → List (List Item)
put_answer gate None lanes = lanes
put_answer gate (Some octets) lanes = put_into gate (Octets octets) lanes

-- A request is answered by the answer of some shard to its job, which may be a refusal. The worker keeps the receipt of the answer.
abbrev pub Answers : Request → (told : List Receipt) → (put : List (List Item)) → List Receipt → List (List Item) → Type 0
Answers request told put new_told new_put =
    (answer : RequestAnswer) × IsAnswerTo request.job answer × IsToldApart answer
    × (new_told ≡ told ++ receipts_of request.job answer) × (new_put ≡ put_answer request.gate (octets_in answer) put)

-- the due sessions of a subscriber are ended
abbrev pub Expires : ℕ → List Receipt → Sub → List Receipt → Type 0
Expires moment old sub new = (answer : ExpiryAnswer) × IsEndOf sub moment answer × (new ≡ old ++ expiry_receipts sub moment answer)

-- the same for each of these subscribers, whatever the answer for the others
abbrev pub ExpiresEach : ℕ → List Sub → List Receipt → List Receipt → Type 0
ExpiresEach moment subs old new = FoldsTo (Expires moment) old subs new

-- the subscribers of some shard that have acts, once and in order; or none, if memory was short for their list
abbrev pub AreListed : List Sub → Type 0
AreListed subs = (subs ≡ []) ⊎ (IsStrictlySortedBy sub_order subs × AreSubs subs)

-- The subscribers that an earlier sweep has left are asked, each once and in order. Then the listed subscribers are left, for this moment.
abbrev pub Sweeps : ℕ → Doing → Doing → Type 0
Sweeps moment old new = ExpiresEach old.moment old.left old.told new.told × (new.put ≡ old.put) × (new.moment ≡ moment) × AreListed new.left

-- a piece of a sweep: the first so many of the subscribers that are left are asked, each once and in order, and the others stay left
abbrev pub AsksPiece : Doing → Doing → Type 0
AsksPiece old new =
    (count : ℕ) × ExpiresEach old.moment (take count old.left) old.told new.told × (new.left ≡ drop count old.left) × (new.moment ≡ old.moment)
    × (new.put ≡ old.put) × (new.counter.audits ≡ old.counter.audits)

-- the sweep stays as it is
abbrev pub KeepsSweep : Doing → Doing → Type 0
KeepsSweep old new = (new.moment ≡ old.moment) × (new.left ≡ old.left)

abbrev pub DoesItem : Doing → Work → Doing → Type 0
DoesItem old (work.Request request) new = Answers request old.told old.put new.told new.put × KeepsSweep old new
DoesItem old (work.Sweep moment) new = Sweeps moment old new
DoesItem old work.Audit new = (new.told ≡ old.told) × (new.put ≡ old.put) × KeepsSweep old new
DoesItem old (work.End gate) new = (new.told ≡ old.told) × (new.put ≡ put_into gate End old.put) × KeepsSweep old new
DoesItem old work.Over new = (new.told ≡ old.told) × (new.put ≡ old.put) × KeepsSweep old new

-- An audit: the first so many of the receipts that the worker keeps were true of the acts that their subscribers' shards held then, and the worker keeps
-- the others. The counter has one audit more. `opening` has the acts at the opening of the shards.
abbrev pub Audits : Held → Doing → Doing → Type 0
Audits opening old new =
    (told : List Receipt) × (old.told ≡ told ++ new.told) × WereTrue opening told × (new.put ≡ old.put) × KeepsSweep old new
    × (new.counter.audits ≡ one_more old.counter.audits)

-- a step of a worker: an item that it took; or a piece of its sweep, or an audit
abbrev pub Does : Held → Doing → Option Work → Doing → Type 0
Does opening old (Some one) new = DoesItem old one new
Does opening old None new = AsksPiece old new ⊎ Audits opening old new

-- no list is made, no audit is asked for, and nothing is audited
abbrev pub KeepsCalls : CallCounter → CallCounter → Type 0
KeepsCalls old new = (new.lists ≡ old.lists) × (new.asked ≡ old.asked) × (new.audits ≡ old.audits)

-- For a sweep the subscribers of the worker's shard are listed once more, and an audit is asked for. No other item, no piece and no audit lists any. An item
-- may ask for an audit, and audits nothing: the audit is a step behind it.
abbrev pub CountsItem : ℕ → CallCounter → Work → CallCounter → Type 0
CountsItem shard old (work.Request request) new = KeepsCalls old new × (new.shard ≡ old.shard)
CountsItem shard old (work.Sweep moment) new =
    (new.lists ≡ one_more old.lists) × (new.shard ≡ shard) × (new.asked ≡ one_more old.asked) × (new.audits ≡ old.audits)
CountsItem shard old work.Audit new =
    (new.lists ≡ old.lists) × (new.shard ≡ old.shard) × (new.asked ≡ one_more old.asked) × (new.audits ≡ old.audits)
CountsItem shard old (work.End gate) new = KeepsCalls old new × (new.shard ≡ old.shard)
CountsItem shard old work.Over new = KeepsCalls old new × (new.shard ≡ old.shard)

abbrev pub CountsFor : ℕ → CallCounter → Option Work → CallCounter → Type 0
CountsFor shard old (Some one) new = CountsItem shard old one new
CountsFor shard old None new = (new.lists ≡ old.lists) × (new.shard ≡ old.shard) × (new.asked ≡ old.asked)

-- a step, with the calls of it counted: behind it the counter says how many subscribers are left to be asked
abbrev pub DoesCounted : Held → ℕ → Doing → Option Work → Doing → Type 0
DoesCounted opening shard old step new = Does opening old step new × CountsFor shard old.counter step new.counter × (new.counter.left ≡ length new.left)

-- the items that were taken in these steps
abbrev pub works_in : List (Option Work) → List Work
works_in steps = filter_map (λ (step : Option Work). step) steps

-- whether a sender of its lane puts nothing more
abbrev pub is_over : Work → Bool
is_over (work.Request request) = false
is_over (work.Sweep moment) = false
is_over work.Audit = false
is_over (work.End gate) = false
is_over work.Over = true

-- A worker went some steps: it took items, until so many senders more put nothing more, and did each in its turn. Between the items it asked pieces
-- of its sweep, and audited its receipts.
pub record Goes (opening : Held) (old new : Worker) (first last : Rest) (ended : ℕ) : Type 0 where
  pub steps : List (Option Work)
  pub taken : items_of (taken_of new.from) ≡ items_of (taken_of old.from) ++ works_in steps
  pub done : FoldsTo (DoesCounted opening old.shard) (doing_of old first) steps (doing_of new last)
  pub ended_are : count_by is_over (works_in steps) ≡ ended
  pub same : IsSameReceiver old.from new.from
  pub lanes : lanes_of new.writers.items ≡ lanes_of old.writers.items
  pub shard : new.shard ≡ old.shard

-- a worker that counts its calls from none on
abbrev pub counting : Worker → Worker
counting worker = record {
  shard = worker.shard;
  seat = worker.seat;
  counter = record { lists = 0; shard = worker.shard; left = 0; asked = 0; audits = 0 };
  from = worker.from;
  writers = worker.writers;
}

-- A worker went steps until so many of its senders put nothing more, with no subscriber left to be asked at the beginning or at the end. So each of
-- its sweeps asked every subscriber of its shard that was listed, once and in order. It audited its receipts at least as often as it was asked for an audit,
-- alone or with a sweep.
pub record HasDone (opening : Held) (old new : Worker) (ended : ℕ) : Type 0 where
  pub first : Rest
  pub last : Rest
  pub nothing_left : (left_of first ≡ []) × (left_of last ≡ [])
  pub goes : Goes opening (counting old) new first last ended
  pub audited : new.counter.asked ≤ new.counter.audits
