use Rattle.dcc_act_codec.specs.OldRecords.{IsOldAct}
use Rattle.dcc_sqlite_rows.specs.declared.line.Line.{Line}
use Rattle.dcc_sqlite_rows.proofs.Groups.{open_all}
use Rattle.dcc_sqlite_rows.proofs.OldRows.{reads_by, there, back}
use Rattle.dcc_sqlite_rows.proofs.laws.old_lines_are_of_old_pages.Goals as goal

pub returns : goal.returns
returns c =
    let reads = reads_by c.records_differ.ensures.one c.old_records_differ.ensures.one in
    record {
      there = λ lines pages fit. there reads lines pages (open_all (λ (line : Line). IsOldAct line.act) lines fit);
      back = λ lines pages fit. back reads lines pages (open_all (λ (line : Line). IsOldAct line.act) lines fit);
    }
