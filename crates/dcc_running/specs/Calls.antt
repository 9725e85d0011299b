-- The answer of a call under a lock, and its receipt.
use Rattle.std.specs.Prelude.{◌≡◌, ◌≢◌, ◌↔◌, ℕ, Bool, true, false, List, [], ◌∷◌, length}
use Rattle.std.specs.List.{AllByRecursion}
use Rattle.dcc_message.specs.HeaderView.{HeaderView}
use Rattle.dcc_act.specs.declared.act.Act.{Act}
use Rattle.dcc_act.specs.declared.sub.Sub.{Sub}
use Rattle.dcc_receipts.specs.declared.receipt.Receipt.{Receipt}
use Rattle.dcc_receipts.specs.declared.receipt.Told.{Told}
use Rattle.dcc_receipts.specs.declared.receipt.Told.TheVariants.{Octets, Added, Ceiling, Closed}
use Rattle.dcc_running.specs.declared.job.Job.{Job}
use Rattle.dcc_shard.specs.Answers.{IsAnswer, IsTold, IsExpired, top_up_act, expiry_act}
use Rattle.dcc_openers.specs.Found.{joined}
use Rattle.dcc_openers.specs.declared.found.Found.{Found}
use Rattle.dcc_openers.specs.declared.found.Found.TheVariants as found
use Rattle.dcc_shard.specs.Openers.{IsFound, opened}
use Rattle.dcc_shard.specs.Shards.{ShardView, held, is_among}
use Rattle.dcc_shard.specs.Stored.{StoredView}
use Rattle.dcc_shard.specs.declared.answers.RequestAnswer.{RequestAnswer}
use Rattle.dcc_shard.specs.declared.answers.RequestAnswer.TheVariants as answers
use Rattle.dcc_shard.specs.declared.answers.ExpiryAnswer.{ExpiryAnswer}
use Rattle.dcc_shard.specs.declared.answers.ExpiryAnswer.TheVariants as expiries
use Rattle.dcc_shard.specs.declared.answers.TopUpAnswer.{TopUpAnswer}
use Rattle.dcc_shard.specs.declared.answers.TopUpAnswer.TheVariants as top_ups

-- an answer of some shard to a job, under the job's own header and with its own proxies
abbrev pub IsAnswerTo : Job → RequestAnswer → Type 0
IsAnswerTo job answer = (shard : ShardView) × IsAnswer shard job.sub job.act job.header job.proxies answer

-- an answer of some shard to a top-up, and to an expiry
abbrev pub IsToldOf : Sub → ℕ → ℕ → ℕ → TopUpAnswer → Type 0
IsToldOf sub moment ticket amount answer = (shard : ShardView) × IsTold shard sub moment ticket amount answer

abbrev pub IsEndOf : Sub → ℕ → ExpiryAnswer → Type 0
IsEndOf sub moment answer = (shard : ShardView) × IsExpired shard sub moment answer

-- the subscribers of some shard that have acts
abbrev pub AreSubs : List Sub → Type 0
AreSubs subs = (shard : ShardView) × ((sub : Sub) → is_among sub subs ≡ true ↔ held shard sub ≢ [])

-- the finding of who opened the session from the host, by the acts that some shard holds
abbrev pub IsFoundBy : (host sid : List ℕ) → Found → Type 0
IsFoundBy host sid who = (shard : ShardView) × IsFound (opened shard host sid) who

abbrev pub joined_with : Found → List Found → Found
joined_with who [] = who
joined_with who (part ∷ parts) = joined_with (joined who part) parts

-- so many shards were asked, each once, and their findings are joined; so if one subscriber is found, some shard found this subscriber
abbrev pub IsResolved : (count : ℕ) → (host sid : List ℕ) → Found → Type 0
IsResolved count host sid who =
    (parts : List Found) × (length parts ≡ count) × AllByRecursion (IsFoundBy host sid) parts × (who ≡ joined_with found.None parts)

-- whether some shard's records have failed
abbrev pub IsToldStopped : {R : Type 0} → (R → Bool) → Bool → Type 0
IsToldStopped {R} is_stopped told = (records : R) × (told ≡ is_stopped records)

-- what a reader finds in some shard
abbrev pub IsReadOf : {R T : Type 0} → (StoredView R → T → Type 0) → T → Type 0
IsReadOf {R} finds found = (shard : StoredView R) × finds shard found

-- the receipt of a job, with its answer and a place, which is 0 for an unknown subscriber
abbrev pub receipt : Job → List ℕ → ℕ → Bool → Receipt
receipt job octets at fresh =
    record { sub = job.sub; place = at; act = job.act; header = job.header; proxies = job.proxies; answer = Octets octets; fresh = fresh }

abbrev pub receipts_of : Job → RequestAnswer → List Receipt
receipts_of job (answers.Done octets at fresh) = receipt job octets at fresh ∷ []
receipts_of job (answers.Unknown octets) = receipt job octets 0 false ∷ []
receipts_of job (answers.Busy octets) = []
receipts_of job answers.Silent = []

-- a top-up and an expiry have no request
abbrev pub no_header : HeaderView
no_header = record { length = 0; flags = 0; code = 0; app = 0; hop = 0; end_to_end = 0 }

abbrev pub plain_receipt : Sub → Act → ℕ → Told → Bool → Receipt
plain_receipt sub act at answer fresh =
    record { sub = sub; place = at; act = act; header = no_header; proxies = []; answer = answer; fresh = fresh }

abbrev pub told_receipts : Sub → Act → TopUpAnswer → List Receipt
told_receipts sub act (top_ups.Done at fresh) = plain_receipt sub act at Added fresh ∷ []
told_receipts sub act (top_ups.Ceiling at fresh) = plain_receipt sub act at Ceiling fresh ∷ []
told_receipts sub act top_ups.BadAmount = []
told_receipts sub act top_ups.Refused = []

abbrev pub top_up_receipts : Sub → ℕ → ℕ → ℕ → TopUpAnswer → List Receipt
top_up_receipts sub moment ticket amount answer = told_receipts sub (top_up_act moment ticket amount) answer

abbrev pub expiry_receipts : Sub → ℕ → ExpiryAnswer → List Receipt
expiry_receipts sub moment (expiries.Closed sessions at) = plain_receipt sub (expiry_act moment) at (Closed sessions) true ∷ []
expiry_receipts sub moment expiries.Nothing = []
expiry_receipts sub moment expiries.Refused = []
