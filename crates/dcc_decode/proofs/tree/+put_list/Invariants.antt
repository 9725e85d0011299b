use Rattle.std.proofs.Common.{◌-◌}
use Rattle.dcc_decode.proofs.tree.+put_list.Given as goal

abbrev pub decreases-put_list : goal.decreases-put_list
decreases-put_list l = 16 - l.level
