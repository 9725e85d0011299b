-- The messages of a gateway in its reader.
use Rattle.std.specs.Prelude.{◌≡◌, ℕ, ◌+◌, ◌-◌, ◌^◌, min, Bool, ◌==◌, ◌&&◌, nat_le, nat_lt, if◌then◌else◌, List, [], ◌∷◌, ◌++◌, length, Option, Some}
use Rattle.dcc_base.specs.declared.peer.Peer.{Peer}
use Rattle.dcc_connect.specs.Clocks.{timed}
use Rattle.dcc_connect.specs.Reading.{ReadsAndHands, EndsAtEnd}
use Rattle.dcc_connect.specs.declared.fault.ConnectionEnd.{ConnectionEnd}
use Rattle.dcc_connect.specs.declared.handing.Handed.{Handed}
use Rattle.dcc_connect.specs.declared.handing.Handed.TheVariants.{Stays, Closes}
use Rattle.dcc_connect.specs.declared.writing.Item.{Item}
use Rattle.dcc_connect.specs.declared.writing.Item.TheVariants.{Octets, End}
use Rattle.dcc_dispatch.specs.Dispatches.{IfAsked, IfSought, IfCharging, IfReplied, IsAsked, IsSought, IsSettled, IsRepliedTo, session_of_key}
use Rattle.dcc_dispatch.specs.Messages.{message_view, received, host_name}
use Rattle.dcc_dispatch.specs.Messages.Received.{Charging}
use Rattle.dcc_dispatch.specs.Settings.{Setting}
use Rattle.dcc_dispatch.specs.declared.decide.Dispatched.{Dispatched}
use Rattle.dcc_dispatch.specs.declared.decide.Dispatched.TheVariants as words
use Rattle.dcc_dispatch.specs.declared.asked.Asked.{Asked as AskedView}
use Rattle.dcc_dispatch.specs.declared.settled.Settled.{Settled}
use Rattle.dcc_dispatch.specs.declared.settled.Settled.TheVariants.{Replied, Asked}
use Rattle.dcc_dispatch.specs.Verdicts.{verdict_of, found_or_refused}
use Rattle.dcc_lane.specs.Ends.{lane_of_sender, put_of}
use Rattle.dcc_openers.specs.Found.{one_of}
use Rattle.dcc_openers.specs.declared.found.Found.{Found}
use Rattle.dcc_running.specs.Calls.{IsResolved}
use Rattle.dcc_running.specs.declared.job.Job.{Job}
use Rattle.dcc_rounds.specs.Lanes.{all_put, lanes_of, put_into, put_all}
use Rattle.dcc_rounds.specs.declared.reader.Reader.{Reader}
use Rattle.dcc_rounds.specs.declared.reader.Sweeps.{Sweeps}
use Rattle.dcc_rounds.specs.declared.work.Request.{Request}
use Rattle.dcc_rounds.specs.declared.work.Work.{Work}
use Rattle.dcc_rounds.specs.declared.work.Work.TheVariants as work
use Rattle.dcc_shard.specs.Routes.{shard_of}

-- the items that a reader put for each shard and for its writer, and its counts
pub record Reading : Type 0 where
  pub asked : List (List Work)
  pub replied : List Item
  pub requests : ℕ
  pub sweeps : Sweeps

abbrev pub reading_of : Reader → Reading
reading_of reader = record { asked = all_put reader.workers.items; replied = put_of reader.writer; requests = reader.requests; sweeps = reader.sweeps }

-- the reader is of the same gateway, and puts into the same lanes
pub record IsSameReader (old new : Reader) : Type 0 where
  pub gate : new.gate ≡ old.gate
  pub workers : lanes_of new.workers.items ≡ lanes_of old.workers.items
  pub writer : lane_of_sender new.writer ≡ lane_of_sender old.writer

-- one of the outcomes that a message to a peer may have, and the state in which it leaves the peer
abbrev pub IsDispatched : Setting → ℕ → List ℕ → (old new : Peer) → Dispatched → Type 0
IsDispatched setting moment message old new word =
    IfCharging word (λ header. received old message ≡ Charging (host_name old) (message_view header message))
    × IfAsked word (λ asked. IsAsked (message_view asked.header message) (verdict_of setting moment (host_name old) (message_view asked.header message)) asked)
    × IfSought word (λ sought. IsSought (message_view sought.header message) (verdict_of setting moment (host_name old) (message_view sought.header message)) sought)
    × IfCharging word (λ header. new ≡ old)
    × IfReplied word (λ reply. IsRepliedTo setting moment (received old message) old new reply)

-- The outcome of a message once nobody is sought any more. For a request that names nobody, each of so many shards is asked, by the host of the
-- request's peer, who opened its session. If a single subscriber did, the request is asked of this subscriber. If nobody or several did, it is
-- refused.
abbrev pub IsSettledBy : Setting → (count : ℕ) → (host message : List ℕ) → Dispatched → Settled → Type 0
IsSettledBy setting count host message (words.Replied reply) settled = settled ≡ Replied reply
IsSettledBy setting count host message (words.Asked asked) settled = settled ≡ Asked asked
IsSettledBy setting count host message (words.Sought sought) settled =
    (sid : List ℕ) × (who : Found) × (session_of_key sought.act ≡ Some sid) × IsResolved count host sid who
    × IsSettled setting.identity (message_view sought.header message)
    (found_or_refused setting.identity (message_view sought.header message) sought.act (one_of who)) settled

-- a condition on the act that is asked of a subscriber
abbrev pub IfSettled : Settled → (AskedView → Type 0) → Type 0
IfSettled (Replied reply) P = Unit {0}
IfSettled (Asked asked) P = P asked

-- the octets of a reply, if it has any
abbrev pub replies : List ℕ → List Item
replies octets = if length octets == 0 then [] else Octets octets ∷ []

-- the job of an act that is asked of a subscriber
abbrev pub job_of : AskedView → Job
job_of asked = record { sub = asked.sub; act = asked.act; header = asked.header; proxies = asked.proxies }

abbrev pub one_more : ℕ → ℕ
one_more count = min (count + 1) (2 ^ 64 - 1)

-- A reply goes to the gateway's own writer, and the connection stays or closes as the reply says. A request for an act goes to the shard that keeps
-- its subscriber, as this gateway's, and the connection stays.
abbrev pub Passes : ℕ → Settled → Handed → Reading → Reading → Type 0
Passes gate (Replied reply) handed old new =
    (handed ≡ (if reply.close then Closes else Stays))
    × (new ≡ record { asked = old.asked; replied = old.replied ++ replies reply.octets; requests = old.requests; sweeps = old.sweeps })
Passes gate (Asked asked) handed old new =
    (handed ≡ Stays)
    × ((request : Request) × (request.gate ≡ gate) × (request.job ≡ job_of asked)
    × (new ≡ record {
      asked = put_into (shard_of asked.sub (length old.asked)) (work.Request request) old.asked;
      replied = old.replied;
      requests = one_more old.requests;
      sweeps = old.sweeps;
    }))

-- a sweep is due behind the message that completes the number; with 0 it is never due
abbrev pub is_due : Sweeps → Bool
is_due sweeps = nat_lt 0 sweeps.every && nat_le sweeps.every (sweeps.since + 1)

abbrev pub since_then : Sweeps → ℕ
since_then sweeps = if sweeps.every == 0 then sweeps.since else (if nat_le sweeps.every (sweeps.since + 1) then 0 else sweeps.since + 1)

-- each shard is asked for a sweep if one is due, and the messages since the last sweep are counted
abbrev pub AsksSweep : ℕ → Reading → Reading → Type 0
AsksSweep moment old new =
    new ≡ record {
      asked = if is_due old.sweeps then put_all (work.Sweep moment) old.asked else old.asked;
      replied = old.replied;
      requests = old.requests;
      sweeps = record { every = old.sweeps.every; since = since_then old.sweeps };
    }

-- a message is dispatched, settled and passed on; then a sweep is asked for if it is due
abbrev pub Hands : Setting → (count : ℕ) → ℕ → List ℕ → Handed → Reader → Reader → Type 0
Hands setting count moment message handed old new =
    (word : Dispatched) × (settled : Settled) × (between : Reading) × IsDispatched setting moment message old.peer new.peer word
    × IsSettledBy setting count (host_name old.peer) message word settled
    × Passes old.gate settled handed (reading_of old) between × AsksSweep moment between (reading_of new) × IsSameReader old new

abbrev pub HandsUnder : Setting → (count : ℕ) → Reader → ℕ → List ℕ → Handed → Reader → Type 0
HandsUnder setting count old moment message handed new = Hands setting count moment message handed old new

-- a reader that ends reports its end once: to each shard, as the end of its gateway, and to its writer
abbrev pub Ends : ℕ → Reading → Reading → Type 0
Ends gate old new =
    new ≡ record { asked = put_all (work.End gate) old.asked; replied = old.replied ++ End ∷ []; requests = old.requests; sweeps = old.sweeps }

-- Pieces were read, and the messages of their octets were handed on, each at the moment of its own reading of the clock. Behind the last message
-- the reader reports its end.
abbrev pub ReadsOut : {C : Type 0} → (C → ℕ → C → Type 0) → C → Setting → (count : ℕ) → ConnectionEnd → Option (List ℕ) → Option (List ℕ) → Reader → Reader → Type 0
ReadsOut {C} tells clock setting count end before after old new =
    (last : Reader) × (later : C) × ReadsAndHands (timed tells (HandsUnder setting count)) end (2 ^ 32 - 1) before after (old, clock) (last, later)
    × EndsAtEnd end after × Ends old.gate (reading_of last) (reading_of new) × IsSameReader old new
