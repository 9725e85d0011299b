-- The results of the command and of its services in an outcome.
use Rattle.std.specs.Prelude.{Bool, true, false, List, []}
use Rattle.dcc_act.specs.declared.outcome.Outcome.{Outcome}
use Rattle.dcc_act.specs.declared.outcome.Outcome.TheVariants.{Answered, Added}
use Rattle.dcc_act.specs.declared.outcome.ResultCode.{ResultCode}
use Rattle.dcc_act.specs.declared.outcome.ResultCode.TheVariants.{Success, UnknownSession, UnableToComply}
use Rattle.dcc_act.specs.declared.outcome.ServiceAnswer.{ServiceAnswer}

abbrev pub is_success : ResultCode → Bool
is_success Success = true
is_success _ = false

-- the command was answered with success
abbrev pub succeeded : Outcome → Bool
succeeded (Answered answer) = is_success answer.result
succeeded _ = false

-- results by which an update or a termination is refused as a whole
abbrev pub is_refusal : ResultCode → Bool
is_refusal UnknownSession = true
is_refusal UnableToComply = true
is_refusal _ = false

-- it was refused as a whole: its session wasn't open, or the funds would have passed the floor
abbrev pub refused : Outcome → Bool
refused (Answered answer) = is_refusal answer.result
refused _ = false

abbrev pub answers_of : Outcome → List ServiceAnswer
answers_of (Answered answer) = answer.services
answers_of _ = []

abbrev pub is_added : Outcome → Bool
is_added Added = true
is_added _ = false
