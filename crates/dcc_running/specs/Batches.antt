-- Batches: the calls of different subscribers of one shard, their answers and their receipts.
use Rattle.std.specs.Prelude.{◌≡◌, ℕ, ◌==◌, Bool, true, List, [], ◌∷◌, ◌++◌, is_some}
use Rattle.std.specs.List.{AllZip, FoldsTo, list_all}
use Rattle.dcc_act.specs.declared.sub.Sub.{Sub}
use Rattle.dcc_model.specs.Keys.{request_key}
use Rattle.dcc_receipts.specs.declared.receipt.Receipt.{Receipt}
use Rattle.dcc_running.specs.Calls.{IsAnswerTo, IsEndOf, receipts_of, expiry_receipts}
use Rattle.dcc_running.specs.Tallies.{no_tally, tally_with}
use Rattle.dcc_running.specs.declared.job.Job.{Job}
use Rattle.dcc_running.specs.declared.tally.Tally.{Tally}
use Rattle.dcc_shard.specs.Answers.{IsAnswer, IsToldApart}
use Rattle.dcc_shard.specs.Routes.{shard_of}
use Rattle.dcc_shard.specs.Shards.{ShardView}
use Rattle.dcc_shard.specs.declared.answers.ExpiryAnswer.{ExpiryAnswer}
use Rattle.dcc_shard.specs.declared.answers.RequestAnswer.{RequestAnswer}

abbrev pub sub_of_job : Job → Sub
sub_of_job job = job.sub

-- whether the act of a job is a request's
abbrev pub has_request : Job → Bool
has_request job = is_some (request_key job.act.kind)

-- whether one shard keeps all these subscribers, of so many shards
abbrev pub are_of_one_shard : ℕ → List Sub → Bool
are_of_one_shard count [] = true
are_of_one_shard count (sub ∷ subs) = list_all (λ other. shard_of other count == shard_of sub count) subs

-- there is one answer for each job, in order, each of some shard
abbrev pub AreAnswersTo : List Job → List RequestAnswer → Type 0
AreAnswersTo jobs answers = AllZip (λ job answer. IsAnswerTo job answer × IsToldApart answer) jobs answers

-- the same, each of this shard
abbrev pub AreAnswersOf : ShardView → List Job → List RequestAnswer → Type 0
AreAnswersOf shard jobs answers =
    AllZip (λ job answer. IsAnswer shard job.sub job.act job.header job.proxies answer × IsToldApart answer) jobs answers

-- the receipts of jobs and their answers, in order
abbrev pub all_receipts_of : List Job → List RequestAnswer → List Receipt
all_receipts_of [] answers = []
all_receipts_of (job ∷ jobs) [] = []
all_receipts_of (job ∷ jobs) (answer ∷ answers) = receipts_of job answer ++ all_receipts_of jobs answers

-- The due sessions of a subscriber are ended, by some shard. The receipt of this is added, if there is one.
abbrev pub Ends : ℕ → List Receipt → Sub → List Receipt → Type 0
Ends moment old sub new = (answer : ExpiryAnswer) × IsEndOf sub moment answer × (new ≡ old ++ expiry_receipts sub moment answer)

-- the same for each of these subscribers, in order
abbrev pub EndsEach : ℕ → List Sub → List Receipt → List Receipt → Type 0
EndsEach moment subs old new = FoldsTo (Ends moment) old subs new

-- the due sessions of a subscriber are ended, and counted
abbrev pub EndsOne : ℕ → List Receipt × Tally → Sub → List Receipt × Tally → Type 0
EndsOne moment old sub new =
    (answer : ExpiryAnswer) × IsEndOf sub moment answer
    × (new.0 ≡ old.0 ++ expiry_receipts sub moment answer) × (new.1 ≡ tally_with old.1 answer)

-- the same for each of these subscribers, in order; the counts are of these alone
abbrev pub CountsEach : ℕ → List Sub → List Receipt → List Receipt → Tally → Type 0
CountsEach moment subs old new tally = FoldsTo (EndsOne moment) (old, no_tally) subs (new, tally)
