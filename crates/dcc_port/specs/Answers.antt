-- The answers to the calls of an operator, and what the calls do.
use Rattle.std.specs.Prelude.{◌≡◌, ℕ, zero, suc, ◌<◌, ◌≤◌, ◌⊎◌, Bool, true, false, List, [], ◌++◌, length, codes, Option, Result, Ok, Err}
use Rattle.std.specs.List.{AllByRecursion, FoldsTo, flat_map}
use Rattle.http_server.specs.declared.response.Response.{Response}
use Rattle.dcc_act.specs.Subs.{SubView}
use Rattle.dcc_receipts.specs.declared.receipt.Receipt.{Receipt}
use Rattle.dcc_running.specs.Batches.{CountsEach}
use Rattle.dcc_running.specs.Calls.{AreSubs, IsToldOf, IsToldStopped, top_up_receipts}
use Rattle.dcc_running.specs.Tallies.{no_tally, tally_sum}
use Rattle.dcc_running.specs.declared.tally.Tally.{Tally}
use Rattle.dcc_shard.specs.Answers.{word_of}
use Rattle.dcc_shard.specs.Shards.{held}
use Rattle.dcc_shard.specs.Stored.{StoredView}
use Rattle.dcc_shard.specs.declared.answers.TopUpAnswer.{TopUpAnswer}
use Rattle.dcc_shard.specs.declared.answers.TopUpAnswer.TheVariants as top_ups
use Rattle.dcc_store.specs.Books.{Held}
use Rattle.dcc_port.specs.Found.{IsFoundOf, account_found, page_found, page_of}
use Rattle.dcc_port.specs.Servers.{Rules}
use Rattle.dcc_port.specs.Sheets.{Sheet, IsSheet, IsShort, backup_sheet, flaw_sheet, health_sheet, metrics_sheet, sheet_of, stop_sheet, sweep_sheet}
use Rattle.dcc_port.specs.declared.backup.BackupEnd.{BackupEnd}
use Rattle.dcc_port.specs.declared.backup.BackupEnd.TheVariants.{Done, There, NoFolder, Uncopied}
use Rattle.dcc_port.specs.declared.call.Ask.{Ask}
use Rattle.dcc_port.specs.declared.call.Call.{Call}
use Rattle.dcc_port.specs.declared.call.Call.TheVariants as calls
use Rattle.dcc_port.specs.declared.port.CopyFault.{CopyFault}
use Rattle.dcc_port.specs.declared.port.CopyFault.TheVariants as faults
use Rattle.dcc_port.specs.declared.sheet.Kind.TheVariants.{Json, Plain}
use Rattle.dcc_port.specs.declared.sweeping.Swept.{Swept}
use Rattle.dcc_port.specs.declared.sweeping.TheConstants.{MOST_AT_ONCE}

-- a port: its clock, the receipts of its seat, and the server around it
pub record PortView (C S : Type 0) : Type 0 where
  pub clock : C
  pub seat : List Receipt
  pub server : S

-- its clock and its seat
abbrev pub work_of : {C S : Type 0} → PortView C S → C × List Receipt
work_of port = (port.clock, port.seat)

-- the answer to a top-up
abbrev pub told_status : TopUpAnswer → ℕ
told_status (top_ups.Done at fresh) = 200
told_status (top_ups.Ceiling at fresh) = 200
told_status top_ups.BadAmount = 400
told_status top_ups.Refused = 503

abbrev pub told_text : TopUpAnswer → List ℕ
told_text answer = codes "{\"told\":\"" ++ (word_of answer ++ codes "\"}")

abbrev pub told_sheet : TopUpAnswer → Sheet
told_sheet answer = sheet_of Json (told_status answer) (told_text answer)

-- Each shard was asked once whether it has stopped, and the answer is by what all said.
abbrev pub IsHealth : {R : Type 0} → (R → Bool) → ℕ → Sheet → Type 0
IsHealth {R} is_stopped count sheet =
    (told : List Bool) × (length told ≡ count) × AllByRecursion (IsToldStopped is_stopped) told × (sheet ≡ health_sheet told)

-- the page of the server's counters, and each shard, as it said when it was asked
abbrev pub IsMetrics : {R S : Type 0} → (R → Bool) → Rules S → ℕ → S → Sheet → Type 0
IsMetrics {R} is_stopped rules count server sheet =
    (page : List ℕ) × rules.pages server page × ((told : List Bool) × (length told ≡ count) × AllByRecursion (IsToldStopped is_stopped) told
    × (sheet ≡ metrics_sheet page told))

-- the answer is by the acts that some shard, over these records, held for the subscriber at one moment
abbrev pub IsAccount : Type 0 → SubView → Sheet → Type 0
IsAccount R sub sheet =
    (shard : StoredView R) × (found : Option (List ℕ)) × IsFoundOf shard.shard.terms sub (held shard.shard sub) found
    × (sheet ≡ account_found found)

abbrev pub IsLedger : Type 0 → SubView → Sheet → Type 0
IsLedger R sub sheet = (shard : StoredView R) × (sheet ≡ page_found (page_of shard.shard.terms sub (held shard.shard sub)))

-- The top-up was made once, at a moment of the clock. The receipt of its answer was added to the seat, and no other; the text is this answer.
pub record IsToppedUp {C : Type 0} (tells : C → ℕ → C → Type 0) (sub : SubView) (ticket amount : ℕ)
    (old : C × List Receipt) (sheet : Sheet) (new : C × List Receipt) : Type 0 where
  pub moment : ℕ
  pub told_at : tells old.0 moment new.0
  pub answer : TopUpAnswer
  pub told : IsToldOf sub moment ticket amount answer
  pub seat : new.1 ≡ old.1 ++ top_up_receipts sub moment ticket amount answer
  pub says : sheet ≡ told_sheet answer

-- the answer to one of many top-ups, in a line
abbrev pub told_line : TopUpAnswer → List ℕ
told_line answer = word_of answer ++ codes "\n"

-- a top-up more was made at this moment, and its answer was told
abbrev pub TopsUp : ℕ → List Receipt × List ℕ → Ask → List Receipt × List ℕ → Type 0
TopsUp moment old ask new =
    (answer : TopUpAnswer) × IsToldOf ask.sub moment ask.ticket ask.amount answer
    × (new.0 ≡ old.0 ++ top_up_receipts ask.sub moment ask.ticket ask.amount answer) × (new.1 ≡ old.1 ++ told_line answer)

-- Exactly these top-ups were made, in order, at one moment of the clock. Their receipts were added to the seat, and no other; the text is their
-- answers, in order.
pub record AreToppedUp {C : Type 0} (tells : C → ℕ → C → Type 0) (asks : List Ask) (old : C × List Receipt) (sheet : Sheet)
    (new : C × List Receipt) : Type 0 where
  pub moment : ℕ
  pub told_at : tells old.0 moment new.0
  pub text : List ℕ
  pub made : FoldsTo (TopsUp moment) (old.1, []) asks (new.1, text)
  pub says : sheet ≡ sheet_of Plain 200 text

-- subscribers of one shard more
abbrev pub AddsSubs : List SubView → List SubView → List SubView → Type 0
AddsSubs old part new = AreSubs part × (new ≡ old ++ part)

-- the subscribers of so many shards, shard by shard
abbrev pub AreAllSubs : ℕ → List SubView → Type 0
AreAllSubs count subs = (parts : List (List SubView)) × (length parts ≡ count) × FoldsTo AddsSubs [] parts subs

-- the due sessions of at most 64 subscribers more were ended, and counted
abbrev pub SweepsPiece : ℕ → List Receipt × Tally → List SubView → List Receipt × Tally → Type 0
SweepsPiece moment old piece new =
    (length piece ≤ MOST_AT_ONCE) × ((part : Tally) × CountsEach moment piece old.0 new.0 part × (new.1 ≡ tally_sum old.1 part))

-- these are all subscribers; or the server said that it is to end, and these are the first
abbrev pub IsLeft : {S : Type 0} → Rules S → S → (done subs : List SubView) → Bool → Type 0
IsLeft rules server done subs true = done ≡ subs
IsLeft rules server done subs false = rules.says_end server true × ((later : List SubView) × (done ++ later ≡ subs))

-- these subscribers were swept, piece by piece
abbrev pub ArePiecesSwept : {S : Type 0} → Rules S → S → ℕ → List SubView → List Receipt → Swept → List Receipt → Type 0
ArePiecesSwept rules server moment subs old swept new =
    (pieces : List (List SubView)) × FoldsTo (SweepsPiece moment) (old, no_tally) pieces (new, swept.tally)
    × IsLeft rules server (flat_map (λ piece. piece) pieces) subs swept.whole

-- The due sessions of each subscriber of each shard were ended, at one moment of the clock, unless the server said that it is to end. Their receipts
-- were added to the seat, and no other.
pub record IsSwept {C S : Type 0} (tells : C → ℕ → C → Type 0) (rules : Rules S) (count : ℕ) (server : S) (old : C × List Receipt)
    (swept : Swept) (new : C × List Receipt) : Type 0 where
  pub subs : List SubView
  pub all : AreAllSubs count subs
  pub moment : ℕ
  pub told_at : tells old.0 moment new.0
  pub ended : ArePiecesSwept rules server moment subs old.1 swept new.1

-- such a sweep, with its answer
abbrev pub Sweeps : {C S : Type 0} → (C → ℕ → C → Type 0) → Rules S → ℕ → PortView C S → Sheet → PortView C S → Type 0
Sweeps tells rules count old sheet new =
    (swept : Swept) × IsSwept tells rules count old.server (work_of old) swept (work_of new) × (new.server ≡ old.server)
    × (sheet ≡ sweep_sheet swept)

-- the store with this index was copied into a folder, with this answer, while some shard over these records was lent under its lock
abbrev pub IsCopied : {S : Type 0} → Type 0 → Rules S → S → List ℕ → ℕ → Result (Unit {0}) CopyFault → Type 0
IsCopied R rules server folder index told = (shard : StoredView R) × rules.copies server folder index told

-- the stores of the first shards, so many, were copied
abbrev pub AreCopied : {S : Type 0} → Type 0 → Rules S → S → List ℕ → ℕ → Type 0
AreCopied R rules server folder zero = Unit {0}
AreCopied R rules server folder (suc count) = AreCopied R rules server folder count × IsCopied R rules server folder count (Ok tt)

-- each shard's store was copied, up to the first failure
abbrev pub AreCopiedAs : {S : Type 0} → Type 0 → Rules S → ℕ → List ℕ → S → BackupEnd → Type 0
AreCopiedAs R rules count folder server Done = AreCopied R rules server folder count
AreCopiedAs R rules count folder server There = ⊥
AreCopiedAs R rules count folder server NoFolder = ⊥
AreCopiedAs R rules count folder server (Uncopied index) =
    AreCopied R rules server folder index × (index < count) × ((fault : CopyFault) × IsCopied R rules server folder index (Err fault))

-- The folder was made, and each shard's store was copied into it, up to the first failure; or the folder was not made.
abbrev pub IsBackedUp : {S : Type 0} → Type 0 → Rules S → ℕ → List ℕ → S → BackupEnd → S → Type 0
IsBackedUp R rules count folder old There new = rules.begins old folder (Err faults.There) new
IsBackedUp R rules count folder old NoFolder new = rules.begins old folder (Err faults.Io) new
IsBackedUp R rules count folder old end new = rules.begins old folder (Ok tt) new × AreCopiedAs R rules count folder new end

-- such a backup, with its answer
abbrev pub BacksUp : {C S : Type 0} → Type 0 → Rules S → ℕ → List ℕ → PortView C S → Sheet → PortView C S → Type 0
BacksUp R rules count folder old sheet new =
    (end : BackupEnd) × IsBackedUp R rules count folder old.server end new.server × (work_of new ≡ work_of old)
    × (sheet ≡ backup_sheet folder count end)

-- the server was told to end
pub record IsEnded {C S : Type 0} (rules : Rules S) (old : PortView C S) (sheet : Sheet) (new : PortView C S) : Type 0 where
  pub told : rules.ends old.server new.server
  pub clock : new.clock ≡ old.clock
  pub seat : new.seat ≡ old.seat
  pub says : sheet ≡ stop_sheet

-- whether a call may be done although there is no memory for its answer
abbrev pub is_done_unsaid : Call → Bool
is_done_unsaid calls.Health = false
is_done_unsaid calls.Metrics = false
is_done_unsaid (calls.Account sub) = false
is_done_unsaid (calls.Ledger sub) = false
is_done_unsaid (calls.TopUp sub ticket amount) = false
is_done_unsaid (calls.TopUps asks) = false
is_done_unsaid calls.Sweep = true
is_done_unsaid (calls.Backup folder) = true
is_done_unsaid calls.Stop = false
is_done_unsaid (calls.Flawed flaw) = false

module _ {R C S : Type 0} (is_stopped : R → Bool) (tells : C → ℕ → C → Type 0) (rules : Rules S) (count : ℕ) where
  -- a call, the port before it, its answer, and the port after it
  abbrev pub Answers : Call → PortView C S → Sheet → PortView C S → Type 0
  Answers calls.Health old sheet new = IsHealth is_stopped count sheet × (new ≡ old)
  Answers calls.Metrics old sheet new = IsMetrics is_stopped rules count old.server sheet × (new ≡ old)
  Answers (calls.Account sub) old sheet new = IsAccount R sub sheet × (new ≡ old)
  Answers (calls.Ledger sub) old sheet new = IsLedger R sub sheet × (new ≡ old)
  Answers (calls.TopUp sub ticket amount) old sheet new =
      IsToppedUp tells sub ticket amount (work_of old) sheet (work_of new) × (new.server ≡ old.server)
  Answers (calls.TopUps asks) old sheet new = AreToppedUp tells asks (work_of old) sheet (work_of new) × (new.server ≡ old.server)
  Answers calls.Sweep old sheet new = Sweeps tells rules count old sheet new
  Answers (calls.Backup folder) old sheet new = BacksUp R rules count folder old sheet new
  Answers calls.Stop old sheet new = IsEnded rules old sheet new
  Answers (calls.Flawed flaw) old sheet new = (sheet ≡ flaw_sheet flaw) × (new ≡ old)

  -- what was done by a call whose answer found no memory: nothing, or the whole of a sweep or a backup
  abbrev pub IsUnsaid : Call → PortView C S → PortView C S → Type 0
  IsUnsaid call old new = (new ≡ old) ⊎ ((is_done_unsaid call ≡ true) × ((sheet : Sheet) × Answers call old sheet new))

  -- a response to a call: the call's answer, or that memory was short
  abbrev pub Responds : Call → PortView C S → Response → PortView C S → Type 0
  Responds call old response new =
      ((sheet : Sheet) × Answers call old sheet new × IsSheet sheet response) ⊎ (IsShort response × IsUnsaid call old new)

  -- such a response; then the server heard of the call's receipts at the end of the seat, and did its part
  abbrev pub Serves : Held → Call → PortView C S → Response → PortView C S → Type 0
  Serves opening call old response new =
      (seat : List Receipt) × Responds call old response (record { clock = new.clock; seat = seat; server = new.server })
      × rules.audits opening new.server seat (length old.seat) new.seat
