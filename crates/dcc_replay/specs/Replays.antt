-- A script's events, run and printed.
use Rattle.std.specs.Prelude.{◌≡◌, ℕ, List, [], length, take, Option, None, Ok, Err, IfSome, All, ⊤}
use Rattle.std.specs.List.Sorted.{IsStrictlySortedBy}
use Rattle.std.specs.Io.KnownBytes.{Appends}
use Rattle.dcc_tariff.specs.Plans.{PlanView}
use Rattle.dcc_act.specs.declared.sub.Sub.{Sub}
use Rattle.dcc_shard.specs.Routes.{route_order}
use Rattle.dcc_engine.specs.declared.event.Event.{Event}
use Rattle.dcc_engine.specs.declared.event.Out.{Out}
use Rattle.dcc_engine.specs.Engines.{EngineView, peer_of, held_of}
use Rattle.dcc_engine.specs.Isolation.{turns, IsRun}
use Rattle.dcc_replay.specs.declared.fault.ReplayFault.{ReplayFault}
use Rattle.dcc_replay.specs.declared.fault.ReplayFault.TheVariants.{Line, Memory, Input, Output}
use Rattle.dcc_replay.specs.Names.{identity_of}
use Rattle.dcc_replay.specs.Scripts.{script_of}
use Rattle.dcc_replay.specs.Printed.{printed}

-- a new engine: under the plan and the identity that the plan names, over the plan's number of shards, without peers and acts
pub record IsNew (plan : PlanView) (engine : EngineView) : Type 0 where
  pub setting : engine.setting ≡ record { plan = plan; identity = identity_of plan }
  pub shards : engine.shards ≡ plan.shards
  pub peers : (id : ℕ) → peer_of engine id ≡ None
  pub accounts : (sub : Sub) → held_of engine sub ≡ []

-- the subscribers whose expiries a sweep refused stand by shard, and then by type and data, each once
abbrev pub AreInOrder : EngineView → List Out → Type 0
AreInOrder engine outs = All (λ out. IsStrictlySortedBy (route_order engine.shards) out.refused) outs

-- the written text is the printed form of the outs of a run over the script's events, one out for each event
pub record IsReplayed (plan : PlanView) (text written : List ℕ) : Type 0 where
  pub events : List Event
  pub outs : List Out
  pub engine : EngineView
  pub read : script_of text ≡ Ok events
  pub opened : IsNew plan engine
  pub count : length outs ≡ length events
  pub run : IsRun engine (turns events outs)
  pub order : AreInOrder engine outs
  pub shown : written ≡ printed outs

-- the text is the printed form for the script, if the script is known
abbrev pub IsShown : PlanView → Option (List ℕ) → List ℕ → Type 0
IsShown plan script written = IfSome script (λ text. IsReplayed plan text written)

-- a writer, before and after, has grown by the whole printed form
abbrev pub IsWritten : PlanView → (script old new : Option (List ℕ)) → Type 0
IsWritten plan script old new = (written : List ℕ) × IsShown plan script written × Appends old new written

-- a writer has grown by the first octets of the printed form
abbrev pub IsBegun : PlanView → (script old new : Option (List ℕ)) → Type 0
IsBegun plan script old new = (written : List ℕ) × (n : ℕ) × IsShown plan script written × Appends old new (take n written)

-- the faults of a replay: the first line of the script with a fault, if the script is known; or memory, input or output
abbrev pub IsReplayFault : Option (List ℕ) → ReplayFault → Type 0
IsReplayFault script (Line line) = IfSome script (λ text. script_of text ≡ Err line)
IsReplayFault script Memory = ⊤
IsReplayFault script Input = ⊤
IsReplayFault script Output = ⊤
