use Rattle.std.proofs.Common.{All, take}
use Rattle.dcc_act_codec.specs.Limits.{WithinService}
use Rattle.dcc_act_codec.proofs.kept.each_keeps_limits.Given as goal

abbrev pub invariant-loop-service : goal.invariant-loop-service
invariant-loop-service l = All WithinService (take l.service-index l.services)
