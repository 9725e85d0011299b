use Rattle.std.proofs.Common.{◌≡◌, true, false, sym}
use Rattle.dcc_port.proofs.Ascii.{is_text, no_folder}
use Rattle.dcc_port.proofs.reading.folder_of.Goals as goal

pub returns-else-is_memory : goal.returns-else-is_memory
returns-else-is_memory c =
    no_folder c.args.body.now c.if-not-is_ascii.ensures
    (c.in-Err.ensures.err (λ e. let short : false ≡ true = c.if-is_memory.ensures.1 e in cc)
    (is_text c.args.body.now (sym c.if-not-is_ascii.ensures)))
