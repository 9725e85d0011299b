use Rattle.dcc_replay.proofs.Visible.{is_text}
use Rattle.dcc_replay.proofs.printing.text_of.Goals as goal

pub returns-in-Err : goal.returns-in-Err
returns-in-Err c = absurd (c.in-Err.ensures.cases.0 (is_text c.args.octets.now c.requires))
