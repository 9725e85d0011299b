-- The octets that go out of a round answer the messages that came in.
use Rattle.std.specs.Prelude.{◌≡◌, ℕ, ◌⊎◌, List, [], ◌∷◌, ◌++◌, Option, Some}
use Rattle.std.specs.Io.KnownBytes.{Appends}
use Rattle.std.specs.List.{AllByRecursion, concat}
use mathlib.Core.List.{IsPrefix}
use Rattle.dcc_base.specs.declared.peer.Peer.{Peer}
use Rattle.dcc_connect.specs.Reading.{ReadsPieces}
use Rattle.dcc_connect.specs.Writing.{octets_in}
use Rattle.dcc_connect.specs.declared.writing.Item.{Item}
use Rattle.dcc_connect.specs.declared.writing.Item.TheVariants.{Octets}
use Rattle.dcc_dispatch.specs.Settings.{Setting}
use Rattle.dcc_dispatch.specs.declared.decide.Dispatched.{Dispatched}
use Rattle.dcc_dispatch.specs.Messages.{host_name}
use Rattle.dcc_dispatch.specs.declared.settled.Settled.{Settled}
use Rattle.dcc_dispatch.specs.declared.settled.Settled.TheVariants.{Replied, Asked}
use Rattle.dcc_lane.specs.Rule.{IsIn}
use Rattle.dcc_message.specs.Streams.{messages}
use Rattle.dcc_running.specs.Calls.{IsAnswerTo}
use Rattle.dcc_rounds.specs.Handing.{IsDispatched, IsSettledBy, job_of}
use Rattle.dcc_rounds.specs.Visiting.{ServesEach, Visit}
use Rattle.dcc_rounds.specs.Working as working
use Rattle.dcc_rounds.specs.declared.tasks.Task.{Task}
use Rattle.dcc_rounds.specs.declared.tasks.Task.TheVariants.{Work, Time, Place, Attend}
use Rattle.dcc_shard.specs.declared.answers.RequestAnswer.{RequestAnswer}

-- the octets of a reply, or of an answer of some shard to the job that a message asks for
abbrev pub Says : Settled → List ℕ → Type 0
Says (Replied reply) octets = octets ≡ reply.octets
Says (Asked asked) octets = (answer : RequestAnswer) × IsAnswerTo (job_of asked) answer × (working.octets_in answer ≡ Some octets)

-- Octets answer a message: they are the octets of its outcome, at some moment, to a peer. If the message names nobody, the outcome is of a
-- subscriber who is found by so many shards.
abbrev pub IsAnswerOf : Setting → (count : ℕ) → (message octets : List ℕ) → Type 0
IsAnswerOf setting count message octets =
    (moment : ℕ) × (old : Peer) × (new : Peer) × (word : Dispatched) × (settled : Settled) × IsDispatched setting moment message old new word
    × IsSettledBy setting count (host_name old) message word settled × Says settled octets

module _ {I O C : Type 0} (remaining : I → Option (List ℕ)) (contents : O → Option (List ℕ)) (tells : C → ℕ → C → Type 0) (closed : Type 0) (clock : C) (setting : Setting)
    (count : ℕ) where
  -- a message stands whole in the octets that were read of a gateway
  abbrev pub HasRead : Visit I O → List ℕ → Type 0
  HasRead visit message =
      (pieces : List (List ℕ)) × (front : List ℕ) × (behind : List ℕ) × ReadsPieces (remaining visit.came.input) (remaining visit.input) pieces
      × (concat pieces ≡ front ++ behind) × IsIn message (messages front)

  -- a message was read so of one of these gateways
  abbrev pub AmongVisits : List (Visit I O) → List ℕ → Type 0
  AmongVisits [] message = ⊥
  AmongVisits (visit ∷ visits) message = HasRead visit message ⊎ AmongVisits visits message

  -- a message was read so of a gateway that a place served
  abbrev pub CameTo : Task I O → Task I O → List ℕ → Type 0
  CameTo (Work worker) new message = ⊥
  CameTo (Time timer) new message = ⊥
  CameTo (Attend attendant) new message = ⊥
  CameTo (Place old) (Work worker) message = ⊥
  CameTo (Place old) (Time timer) message = ⊥
  CameTo (Place old) (Attend attendant) message = ⊥
  CameTo (Place old) (Place new) message =
      (visits : List (Visit I O)) × ServesEach remaining contents tells closed clock setting count visits old new × AmongVisits visits message

  -- a message was read so of a gateway that a place of a round served
  abbrev pub CameIn : (begun ended : List (Task I O)) → List ℕ → Type 0
  CameIn [] ended message = ⊥
  CameIn (old ∷ olds) [] message = ⊥
  CameIn (old ∷ olds) (new ∷ news) message = CameTo old new message ⊎ CameIn olds news message

  -- the octets that went out to a gateway are a beginning of the octets of some items, each of which answers a message that came in
  abbrev pub WritesAnswers : (List ℕ → Type 0) → Visit I O → Type 0
  WritesAnswers came visit =
      (items : List Item) × (out : List ℕ) × Appends (contents visit.came.output) (contents visit.output) out × IsPrefix out (octets_in items)
      × ((octets : List ℕ) → IsIn (Octets octets) items → (message : List ℕ) × came message × IsAnswerOf setting count message octets)

  -- the octets that went out to each gateway of a place answer so
  abbrev pub AnswersAll : (List ℕ → Type 0) → Task I O → Task I O → Type 0
  AnswersAll came (Work worker) new = Unit {0}
  AnswersAll came (Time timer) new = Unit {0}
  AnswersAll came (Attend attendant) new = Unit {0}
  AnswersAll came (Place old) (Work worker) = ⊥
  AnswersAll came (Place old) (Time timer) = ⊥
  AnswersAll came (Place old) (Attend attendant) = ⊥
  AnswersAll came (Place old) (Place new) =
      (visits : List (Visit I O)) × ServesEach remaining contents tells closed clock setting count visits old new × AllByRecursion (WritesAnswers came) visits

  -- the octets that went out by each thread of a round answer so
  abbrev pub AllAnswer : (List ℕ → Type 0) → (begun ended : List (Task I O)) → Type 0
  AllAnswer came [] ended = Unit {0}
  AllAnswer came (old ∷ olds) [] = ⊥
  AllAnswer came (old ∷ olds) (new ∷ news) = AnswersAll came old new × AllAnswer came olds news
