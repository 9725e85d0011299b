use Rattle.std.proofs.Common.{◌≡◌, ◌-◌}
use Rattle.std.specs.Int.{w32}
use Rattle.dcc_act_codec.specs.inner.Readers.{number_in, many_in}
use Rattle.dcc_act_codec.proofs.Loop.{with_front}
use Rattle.dcc_act_codec.proofs.reading.many_ids.Given as goal

abbrev pub invariant-loop : goal.invariant-loop
invariant-loop l = with_front l.ids.items (many_in (number_in w32) (l.count - l.counter) l.rest) ≡ many_in (number_in w32) l.count l.octets
