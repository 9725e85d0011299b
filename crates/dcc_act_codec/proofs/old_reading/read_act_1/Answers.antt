use Rattle.std.proofs.Common.{arith}
use Rattle.dcc_act_codec.specs.OldRecords.{old_record_of, IsOldAct}
use Rattle.dcc_act_codec.specs.inner.OldReading.{first_old_act_in}
use Rattle.dcc_act_codec.proofs.Acts.{old_act_reads, is_found, is_within, is_refused}
use Rattle.dcc_act_codec.proofs.old_reading.read_act_1.Goals as goal

pub returns : goal.returns
returns c = record {
  found = is_found old_record_of IsOldAct first_old_act_in old_act_reads c.args.octets.now c.act_of_1.result (λ i. omega (arith, c.type_inv.octets i)) c.act_of_1.ensures;
  within = is_within old_record_of IsOldAct first_old_act_in old_act_reads c.args.octets.now c.act_of_1.result (λ i. omega (arith, c.type_inv.octets i)) c.act_of_1.ensures;
  refused = is_refused old_record_of IsOldAct first_old_act_in old_act_reads c.args.octets.now c.act_of_1.result c.act_of_1.ensures;
}
