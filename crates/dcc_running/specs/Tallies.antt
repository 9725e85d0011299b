-- The counts of expiries.
use Rattle.std.specs.Prelude.{ℕ, ◌+◌, ◌-◌, ◌^◌, min, List, [], ◌∷◌}
use Rattle.dcc_running.specs.declared.tally.Tally.{Tally}
use Rattle.dcc_shard.specs.declared.answers.ExpiryAnswer.{ExpiryAnswer}
use Rattle.dcc_shard.specs.declared.answers.ExpiryAnswer.TheVariants as expiries
use Rattle.dcc_shard.specs.declared.call.Reply.{Reply}
use Rattle.dcc_shard.specs.declared.call.Reply.TheVariants as replies

-- the counts of no expiry
abbrev pub no_tally : Tally
no_tally = record { sessions = 0; refused = 0 }

-- a number more, up to 2^64 - 1
abbrev pub count_with : ℕ → ℕ → ℕ
count_with count more = min (count + more) (2 ^ 64 - 1)

-- an answer more: the sessions that were ended so far, and the subscribers that were refused
abbrev pub tally_with : Tally → ExpiryAnswer → Tally
tally_with tally (expiries.Closed sessions at) = record tally { sessions = count_with tally.sessions sessions }
tally_with tally expiries.Nothing = tally
tally_with tally expiries.Refused = record tally { refused = count_with tally.refused 1 }

-- the counts of expiries, and of others
abbrev pub tally_sum : Tally → Tally → Tally
tally_sum tally other = record { sessions = count_with tally.sessions other.sessions; refused = count_with tally.refused other.refused }

-- a reply more; only a reply to an expiry counts
abbrev pub tally_with_reply : Tally → Reply → Tally
tally_with_reply tally (replies.Request answer) = tally
tally_with_reply tally (replies.TopUp answer) = tally
tally_with_reply tally (replies.Expiry answer) = tally_with tally answer

-- these replies more
abbrev pub tallied : Tally → List Reply → Tally
tallied tally [] = tally
tallied tally (reply ∷ replies) = tallied (tally_with_reply tally reply) replies
