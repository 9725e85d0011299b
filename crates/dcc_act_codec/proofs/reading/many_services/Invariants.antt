use Rattle.std.proofs.Common.{◌≡◌, ◌-◌}
use Rattle.dcc_act_codec.specs.inner.Readers.{many_in}
use Rattle.dcc_act_codec.specs.inner.Reading.{service_in}
use Rattle.dcc_act_codec.proofs.Loop.{with_front}
use Rattle.dcc_act_codec.proofs.reading.many_services.Given as goal

abbrev pub invariant-loop : goal.invariant-loop
invariant-loop l = with_front l.services.items (many_in service_in (l.count - l.counter) l.rest) ≡ many_in service_in l.count l.octets
