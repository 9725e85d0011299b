use Rattle.dcc_decode.proofs.TreeLemmas.{ends_below}
use Rattle.dcc_decode.proofs.message.broken_tree.Goals as goal

pub returns : goal.returns
returns c = ends_below _ _ _ c.in_ok-put_below.ensures
