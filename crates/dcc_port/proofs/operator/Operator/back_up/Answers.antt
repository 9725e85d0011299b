use Rattle.std.proofs.Common.{refl}
use Rattle.dcc_port.proofs.Results.{on_err}
use Rattle.dcc_port.specs.Sheets.{backup_sheet}
use Rattle.dcc_port.proofs.operator.Operator.back_up.Goals as goal

pub returns-clause-unsaid : goal.returns-clause-unsaid
returns-clause-unsaid g c =
    let end = c.back_up-end.result in
    on_err c.put_backup.result
    (backup_sheet c.args.folder.now c.args.self.now.port.now.count end, (end, c.back_up-end.ensures, refl, refl))
