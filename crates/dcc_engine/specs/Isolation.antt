-- A subscriber's own entries, and the answers of a whole run.
use Rattle.std.specs.Prelude.{◌≡◌, ℕ, ◌+◌, if◌then◌else◌, List, [], ◌∷◌, length, map, take, reverse, slice_get, Option, Some, None}
use Rattle.dcc_base.specs.declared.peer.Peer.{Peer}
use Rattle.dcc_act.specs.declared.act.Act.{Act}
use Rattle.dcc_act.specs.declared.sub.Sub.{Sub}
use Rattle.dcc_model.specs.Outcomes.{outcome, acts}
use Rattle.dcc_hosts.specs.Hosts.{unhosted}
use Rattle.dcc_engine.specs.Engines.{EngineView, held_of, peer_of, subs_of}
use Rattle.dcc_engine.specs.Openers.{Before}
use Rattle.dcc_engine.specs.Asks.{Turn, Ask, Said, ask_for, is_refused_for, said_by, IsAnsweredFor, IsOut, after_turn}
use Rattle.dcc_engine.specs.declared.event.Event.{Event}
use Rattle.dcc_engine.specs.declared.event.Out.{Out}

-- the events with their outs, in order
abbrev pub turns : List Event → List Out → List Turn
turns [] outs = []
turns (event ∷ events) [] = []
turns (event ∷ events) (out ∷ outs) = record { event = event; out = out } ∷ turns events outs

-- Definitions that look back from a moment: `past` has the turns since the run began, the latest first.

-- the state after a past: each peer by its own events alone; for each subscriber the acts held before the run, and then the acts of its
-- events, in order, without the refused acts
abbrev pub before_of : EngineView → List Turn → Before
before_of engine [] = record { peers = peer_of engine; own = held_of engine; subs = subs_of engine }
before_of engine (turn ∷ past) = after_turn engine.setting turn (before_of engine past)

-- what an event asks of a subscriber after a past
abbrev pub asked : EngineView → List Turn → Event → Sub → Option Ask
asked engine past event sub = ask_for engine.setting (before_of engine past) event sub

-- The same for a list of turns in order.

-- a subscriber's own entries
abbrev pub own : EngineView → List Turn → Sub → List Act
own engine all sub = (before_of engine (reverse all)).own sub

abbrev pub peers : EngineView → List Turn → ℕ → Option Peer
peers engine all id = (before_of engine (reverse all)).peers id

-- the place of an event in its subscriber's own entries, after these turns
abbrev pub entry_place : EngineView → List Turn → Sub → ℕ
entry_place engine before sub = length (own engine before sub) + 1

-- The turn at index k is answered by the outcome at its place in the own entries of the subscriber that it asks, or is refused. Its
-- whole out has the form that its event and the state before it define.
pub record IsAnswered (engine : EngineView) (all : List Turn) (k : ℕ) (turn : Turn) : Type 0 where
  pub subscribers : (sub : Sub) (ask : Ask) → asked engine (reverse (take k all)) turn.event sub ≡ Some ask
      → IsAnsweredFor engine.setting (own engine (take k all) sub) ask sub turn.out
      (outcome engine.setting.plan.terms (own engine all sub) (entry_place engine (take k all) sub))
  pub whole : IsOut engine.setting (before_of engine (reverse (take k all))) turn.event turn.out

-- each turn of a run is answered so
abbrev pub IsRun : EngineView → List Turn → Type 0
IsRun engine all = (k : ℕ) (turn : Turn) → slice_get all k ≡ Some turn → IsAnswered engine all k turn

-- The asks of a subscriber's own events, and the answer to each, without the refused asks, the latest first.

-- x in front, if the event asked of the subscriber and was not refused
abbrev pub with_own : {X : Type 0} → Option Ask → Out → Sub → (Ask → X) → List X → List X
with_own None out sub x before = before
with_own (Some ask) out sub x before = if is_refused_for ask out sub then before else x ask ∷ before

abbrev pub asks_after : EngineView → List Turn → Sub → List Ask
asks_after engine [] sub = []
asks_after engine (turn ∷ past) sub =
    with_own (asked engine past turn.event sub) turn.out sub (λ ask. ask) (asks_after engine past sub)

abbrev pub answers_after : EngineView → List Turn → Sub → List Said
answers_after engine [] sub = []
answers_after engine (turn ∷ past) sub =
    with_own (asked engine past turn.event sub) turn.out sub (λ ask. said_by ask.source turn.out) (answers_after engine past sub)

-- the same for a list of turns in order
abbrev pub own_asks : EngineView → List Turn → Sub → List Ask
own_asks engine all sub = reverse (asks_after engine (reverse all) sub)

abbrev pub answers : EngineView → List Turn → Sub → List Said
answers engine all sub = reverse (answers_after engine (reverse all) sub)

-- an ask whose act has no host of its peer
abbrev pub unhosted_ask : Ask → Ask
unhosted_ask ask = record ask { act = unhosted ask.act }

-- two lists of asks that differ in hosts alone
abbrev pub AsksAreAlike : List Ask → List Ask → Type 0
AsksAreAlike first second = map unhosted_ask first ≡ map unhosted_ask second

-- one run begins as another left off
pub record Follows (a b : EngineView) (xs : List Turn) : Type 0 where
  pub setting : b.setting ≡ a.setting
  pub held : (sub : Sub) → held_of b sub ≡ acts a.setting.plan.terms (own a xs sub)
  pub peers_are : (id : ℕ) → peer_of b id ≡ peers a xs id
