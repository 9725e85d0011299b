-- `dcc replay PLAN`: a script replayed under the plan of a file.
use Rattle.std.specs.Prelude.{⊤, ◌≡◌, ℕ, List, Option, Err, IfSome}
use Rattle.dcc_tariff.specs.Plans.{PlanView}
use Rattle.dcc_replay.specs.Scripts.{script_of}
use Rattle.dcc_replay.specs.Replays as run
use Rattle.dcc_program.specs.declared.failure.Failure.{Failure}
use Rattle.dcc_program.specs.declared.failure.Failure.TheVariants.{Usage, Memory, Io, Plan, Store, Script, Close}
use Rattle.dcc_program.specs.Plans.{IsPlanOf, IsPlanFailure}

-- a writer, before and after, has grown by the printed form for the script under the plan of the file
abbrev pub IsReplay : (file script old new : Option (List ℕ)) → Type 0
IsReplay file script old new = (plan : PlanView) × IsPlanOf file plan × run.IsWritten plan script old new

-- a writer has grown by the first octets of this printed form
abbrev pub IsReplayBegun : (file script old new : Option (List ℕ)) → Type 0
IsReplayBegun file script old new = (plan : PlanView) × IsPlanOf file plan × run.IsBegun plan script old new

-- the failures of a replay: the plan's, or under a good plan the script's first line with a fault; or memory, input or output
abbrev pub IsReplayFailure : (file script : Option (List ℕ)) → Failure → Type 0
IsReplayFailure file script Usage = ⊥
IsReplayFailure file script Memory = ⊤
IsReplayFailure file script Io = ⊤
IsReplayFailure file script (Plan number) = IsPlanFailure file (Plan number)
IsReplayFailure file script (Store number) = ⊥
IsReplayFailure file script (Script line) = (plan : PlanView) × IsPlanOf file plan
    × IfSome script (λ text. script_of text ≡ Err line)
IsReplayFailure file script (Close number) = ⊥
