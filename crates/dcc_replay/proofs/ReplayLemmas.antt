-- A replay, put together of its steps.
use Rattle.std.proofs.Common.{◌≡◌, ℕ, List, length, Option, Some, None, Result, Ok, Err, IfSome, IfErr}
use Rattle.dcc_tariff.specs.Plans.{PlanView}
use Rattle.dcc_engine.specs.declared.event.Event.{Event}
use Rattle.dcc_engine.specs.declared.event.Out.{Out}
use Rattle.dcc_engine.specs.Engines.{EngineView}
use Rattle.dcc_engine.specs.Isolation.{turns, IsRun}
use Rattle.dcc_replay.specs.Scripts.{script_of}
use Rattle.dcc_replay.specs.Printed.{printed}
use Rattle.dcc_replay.specs.Replays.{IsNew, AreInOrder, IsShown}

-- what is printed is what is printed of the script
pub script_shown : (plan : PlanView) (script : Option (List ℕ)) (text : List ℕ) (events : List Event) (outs : List Out) (written : List ℕ)
    → IfSome script (λ all. text ≡ all) → script_of text ≡ Ok events
    → ((engine : EngineView) × IsNew plan engine × (length outs ≡ length events) × IsRun engine (turns events outs) × AreInOrder engine outs)
    → written ≡ printed outs → IsShown plan script written
script_shown plan None text events outs written whole says run is = tt
script_shown plan (Some all) text events outs written whole says run is =
    record { events = events; outs = outs; engine = run.0; read = rw whole at says; opened = run.1; count = run.2; run = run.3; order = run.4; shown = is }

-- a fact of every fault
pub faulty : {T E : Type 0} (A : E → Type 0) (P : Type 0) (r : Result T E) → P → IfErr r (λ fault. A fault → P)
faulty A P (Ok done) given = tt
faulty A P (Err fault) given = λ _. given
