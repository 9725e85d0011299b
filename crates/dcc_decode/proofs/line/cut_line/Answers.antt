use Rattle.dcc_decode.proofs.LineLemmas.{first_cut}
use Rattle.dcc_decode.proofs.line.cut_line.Goals as goal

pub returns-clause-lines : goal.returns-clause-lines
returns-clause-lines c =
    rw (c.front.ensures, c.behind.ensures, c.end_of-after.ensures.value) (first_cut c.args.text.now c.requires)
