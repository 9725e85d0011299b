use Rattle.std.proofs.Common.{◌≡◌, true, false, sym}
use Rattle.dcc_client.proofs.Ascii.{is_text, no_value}
use Rattle.dcc_client.proofs.body.data_of.Goals as goal

pub returns-else-is_memory : goal.returns-else-is_memory
returns-else-is_memory c =
    no_value c.args.body.now c.if-not-is_ascii.ensures
    (c.in-Err.ensures.err (λ e. let short : false ≡ true = c.if-is_memory.ensures.1 e in cc)
    (is_text c.args.body.now (sym c.if-not-is_ascii.ensures)))
