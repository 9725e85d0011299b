use Rattle.dcc_act_codec.specs.Limits.{IsAct}
use Rattle.dcc_act_codec.specs.Records.{record_of}
use Rattle.dcc_act_codec.specs.inner.Reading.{first_act_in}
use Rattle.dcc_act_codec.proofs.Acts.{act_reads, one_record, told_apart}
use Rattle.dcc_act_codec.proofs.laws.records_differ.Goals as goal

pub returns : goal.returns
returns c = record { one = one_record record_of IsAct first_act_in act_reads; followed = told_apart record_of IsAct first_act_in act_reads }
