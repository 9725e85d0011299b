-- Batches: requests that a worker answers together. A batch is several steps of the worker, one after another.
use Rattle.std.specs.Prelude.{◌≡◌, ℕ, ◌==◌, Bool, true, not, ◌&&◌, List, [], ◌∷◌, ◌++◌, map, Option}
use Rattle.std.specs.List.{FoldsTo}
use Rattle.dcc_act.specs.declared.sub.Sub.{Sub}
use Rattle.dcc_connect.specs.Writing.{items_of}
use Rattle.dcc_connect.specs.declared.writing.Item.{Item}
use Rattle.dcc_lane.specs.Ends.{IsSameReceiver, taken_of}
use Rattle.dcc_lane.specs.declared.receiver.Receiver.{Receiver}
use Rattle.dcc_receipts.specs.declared.receipt.Receipt.{Receipt}
use Rattle.dcc_running.specs.Batches.{AreAnswersTo, all_receipts_of, are_of_one_shard}
use Rattle.dcc_running.specs.declared.job.Job.{Job}
use Rattle.dcc_shard.specs.Routes.{shard_of}
use Rattle.dcc_shard.specs.Shards.{are_apart, is_among}
use Rattle.dcc_shard.specs.declared.answers.RequestAnswer.{RequestAnswer}
use Rattle.dcc_rounds.specs.Lanes.{all_put, lanes_of}
use Rattle.dcc_rounds.specs.Working.{Answers, octets_in, put_answer, works_in}
use Rattle.dcc_rounds.specs.declared.work.Request.{Request}
use Rattle.dcc_rounds.specs.declared.work.Work.{Work}
use Rattle.dcc_rounds.specs.declared.work.Work.TheVariants as work
use Rattle.dcc_rounds.specs.declared.worker.Worker.{Worker}

abbrev pub gate_of : Request → ℕ
gate_of request = request.gate

abbrev pub job_of : Request → Job
job_of request = request.job

abbrev pub sub_of_request : Request → Sub
sub_of_request request = request.job.sub

-- the items that ask for these requests
abbrev pub works_of : List Request → List Work
works_of requests = map (λ request. work.Request request) requests

-- the requests are of different subscribers, whom one shard keeps, of so many
abbrev pub IsOneBatch : ℕ → List Request → Type 0
IsOneBatch count requests =
    (are_apart (map sub_of_request requests) ≡ true) × (are_of_one_shard count (map sub_of_request requests) ≡ true)

-- whether one more subscriber differs from these, and is of the same shard
abbrev pub may_join : ℕ → List Sub → Sub → Bool
may_join count [] sub = true
may_join count (first ∷ subs) sub = (shard_of sub count == shard_of first count) && not (is_among sub (first ∷ subs))

-- the items behind these requests were taken: further requests of the batch, and then others
abbrev pub IsGathered : Receiver Work → List Request → Receiver Work → List Request → List Work → Type 0
IsGathered from requests new_from new_requests others =
    (before : List Work) → items_of (taken_of from) ≡ before ++ works_of requests → items_of (taken_of new_from) ≡ before ++ (works_of new_requests ++ others)

-- what a worker told its seat, and what it put for each gateway
abbrev pub Told : Type 0
Told = List Receipt × List (List Item)

-- each of these requests is answered, one after another
abbrev pub AnswersEach : List Request → Told → Told → Type 0
AnswersEach requests old new = FoldsTo (λ (before : Told) request (behind : Told). Answers request before.0 before.1 behind.0 behind.1) old requests new

-- the answers to jobs go to these gateways, in order
abbrev pub put_answers : List ℕ → List RequestAnswer → List (List Item) → List (List Item)
put_answers [] answers lanes = lanes
put_answers (gate ∷ gates) [] lanes = lanes
put_answers (gate ∷ gates) (answer ∷ answers) lanes = put_answers gates answers (put_answer gate (octets_in answer) lanes)

-- jobs are answered by the answers of some shards, in order, to these gateways
abbrev pub AreAnswered : List ℕ → List Job → Told → Told → Type 0
AreAnswered gates jobs old new =
    (answers : List RequestAnswer) × AreAnswersTo jobs answers × (new.0 ≡ old.0 ++ all_receipts_of jobs answers) × (new.1 ≡ put_answers gates answers old.1)

-- A worker took requests and answered each in its turn. It took one item behind them, if any, which is not done yet.
pub record AnswersTaken (old new : Worker) (behind : Option Work) : Type 0 where
  pub requests : List Request
  pub taken : items_of (taken_of new.from) ≡ items_of (taken_of old.from) ++ (works_of requests ++ works_in (behind ∷ []))
  pub answered : AnswersEach requests (old.seat, all_put old.writers.items) (new.seat, all_put new.writers.items)
  pub counter : new.counter ≡ old.counter
  pub same : IsSameReceiver old.from new.from
  pub lanes : lanes_of new.writers.items ≡ lanes_of old.writers.items
  pub shard : new.shard ≡ old.shard
