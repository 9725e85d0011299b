use Rattle.dcc_act_codec.specs.OldRecords.{old_record_of, IsOldAct}
use Rattle.dcc_act_codec.specs.inner.OldReading.{first_old_act_in}
use Rattle.dcc_act_codec.proofs.Acts.{old_act_reads, one_record, told_apart}
use Rattle.dcc_act_codec.proofs.laws.old_records_differ.Goals as goal

pub returns : goal.returns
returns c = record { one = one_record old_record_of IsOldAct first_old_act_in old_act_reads; followed = told_apart old_record_of IsOldAct first_old_act_in old_act_reads }
