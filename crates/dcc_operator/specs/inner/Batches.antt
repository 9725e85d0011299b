-- Top-ups of a batch as calls of a shard.
use Rattle.std.specs.Prelude.{◌≡◌, List, ◌++◌, map, filter_map, Option, Some, None}
use Rattle.dcc_act.specs.declared.sub.Sub.{Sub}
use Rattle.dcc_shard.specs.declared.answers.TopUpAnswer.{TopUpAnswer}
use Rattle.dcc_shard.specs.Shards.{ShardView, held}
use Rattle.dcc_operator.specs.Many.{AreToppedUp}
use Rattle.dcc_shard.specs.declared.call.Call.{Call}
use Rattle.dcc_shard.specs.declared.call.Call.TheVariants as calls
use Rattle.dcc_shard.specs.declared.call.Reply.{Reply}
use Rattle.dcc_shard.specs.declared.call.Reply.TheVariants as replies
use Rattle.dcc_operator.specs.declared.commands.TopUpAsk.{TopUpAsk}

abbrev pub call_of : TopUpAsk → Call
call_of ask = calls.TopUp ask.sub ask.moment ask.ticket ask.amount

abbrev pub subs_of : List TopUpAsk → List Sub
subs_of asks = map (λ ask. ask.sub) asks

-- the answers of replies to top-ups
abbrev pub answer_in : Reply → Option TopUpAnswer
answer_in (replies.Request answer) = None
answer_in (replies.TopUp answer) = Some answer
answer_in (replies.Expiry answer) = None

abbrev pub answers_in : List Reply → List TopUpAnswer
answers_in all = filter_map answer_in all

-- top-ups were made in a shard, and their answers were added to those before
pub record IsMadeOf (old new : ShardView) (asks : List TopUpAsk) (before after : List TopUpAnswer) : Type 0 where
  pub answers : List TopUpAnswer
  pub added : after ≡ before ++ answers
  pub made : AreToppedUp old.terms asks answers (held old) (held new)
  pub terms : new.terms ≡ old.terms
  pub identity : new.identity ≡ old.identity
