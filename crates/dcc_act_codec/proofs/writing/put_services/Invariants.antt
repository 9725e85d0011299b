use Rattle.std.proofs.Common.{◌≡◌, ◌++◌, ◌∷◌, length, take}
use Rattle.std.specs.List.{flat_map}
use Rattle.dcc_act_codec.specs.Records.{service_octets}
use Rattle.dcc_act_codec.proofs.writing.put_services.Given as goal

abbrev pub invariant-loop-service : goal.invariant-loop-service
invariant-loop-service l = l.out.items ≡ l.fn.out.items ++ (length l.services ∷ flat_map service_octets (take l.service-index l.services))
