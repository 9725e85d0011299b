-- The calls of a batch, and the receipts of their replies.
use Rattle.std.specs.Prelude.{◌≡◌, ℕ, ◌≤◌, List, [], ◌∷◌, ◌++◌, length}
use Rattle.std.specs.List.{AllByRecursion, AllZip}
use Rattle.dcc_act.specs.declared.sub.Sub.{Sub}
use Rattle.dcc_answer.specs.declared.answer.TheConstants.{MAX_ANSWER}
use Rattle.dcc_receipts.specs.declared.receipt.Receipt.{Receipt}
use Rattle.dcc_running.specs.Calls.{expiry_receipts}
use Rattle.dcc_running.specs.declared.job.Job.{Job}
use Rattle.dcc_running.specs.declared.lock.Place.{Place}
use Rattle.dcc_shard.specs.Answers.{octets_of}
use Rattle.dcc_shard.specs.Batches.{sub_of}
use Rattle.dcc_shard.specs.Routes.{shard_of}
use Rattle.dcc_shard.specs.declared.answers.RequestAnswer.{RequestAnswer}
use Rattle.dcc_shard.specs.declared.call.Call.{Call}
use Rattle.dcc_shard.specs.declared.call.Call.TheVariants as calls
use Rattle.dcc_shard.specs.declared.call.Reply.{Reply}
use Rattle.dcc_shard.specs.declared.call.Reply.TheVariants as replies

abbrev pub call_of : Job → Call
call_of job = calls.Request job.sub job.act job.header job.proxies

abbrev pub reply_of : RequestAnswer → Reply
reply_of answer = replies.Request answer

abbrev pub end_of : ℕ → Sub → Call
end_of moment sub = calls.Expiry sub moment

-- the shard at this place keeps the subscriber of each call
abbrev pub AreKeptAt : Place → List Call → Type 0
AreKeptAt place calls = AllByRecursion (λ call. place.index ≡ shard_of (sub_of call) place.count) calls

-- the reply is one to a request, of no more octets than an answer may have
abbrev pub IsAnswered : Job → Reply → Type 0
IsAnswered job (replies.Request answer) = length (octets_of answer) ≤ MAX_ANSWER
IsAnswered job (replies.TopUp answer) = ⊥
IsAnswered job (replies.Expiry answer) = ⊥

abbrev pub AreAnswered : List Job → List Reply → Type 0
AreAnswered jobs replies = AllZip IsAnswered jobs replies

-- the reply is one to an expiry
abbrev pub IsEnded : Sub → Reply → Type 0
IsEnded sub (replies.Request answer) = ⊥
IsEnded sub (replies.TopUp answer) = ⊥
IsEnded sub (replies.Expiry answer) = Unit {0}

abbrev pub AreEnded : List Sub → List Reply → Type 0
AreEnded subs replies = AllZip IsEnded subs replies

-- the receipts of replies to expiries at this moment, in order
abbrev pub end_receipts : ℕ → Sub → Reply → List Receipt
end_receipts moment sub (replies.Request answer) = []
end_receipts moment sub (replies.TopUp answer) = []
end_receipts moment sub (replies.Expiry answer) = expiry_receipts sub moment answer

abbrev pub all_end_receipts : ℕ → List Sub → List Reply → List Receipt
all_end_receipts moment [] replies = []
all_end_receipts moment (sub ∷ subs) [] = []
all_end_receipts moment (sub ∷ subs) (reply ∷ replies) = end_receipts moment sub reply ++ all_end_receipts moment subs replies
