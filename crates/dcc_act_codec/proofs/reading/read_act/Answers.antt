use Rattle.std.proofs.Common.{arith}
use Rattle.dcc_act_codec.specs.Limits.{IsAct}
use Rattle.dcc_act_codec.specs.Records.{record_of}
use Rattle.dcc_act_codec.specs.inner.Reading.{first_act_in}
use Rattle.dcc_act_codec.proofs.Acts.{act_reads, is_found, is_within, is_refused}
use Rattle.dcc_act_codec.proofs.reading.read_act.Goals as goal

pub returns : goal.returns
returns c = record {
  found = is_found record_of IsAct first_act_in act_reads c.args.octets.now c.act_of.result (λ i. omega (arith, c.type_inv.octets i)) c.act_of.ensures;
  within = is_within record_of IsAct first_act_in act_reads c.args.octets.now c.act_of.result (λ i. omega (arith, c.type_inv.octets i)) c.act_of.ensures;
  refused = is_refused record_of IsAct first_act_in act_reads c.args.octets.now c.act_of.result c.act_of.ensures;
}
