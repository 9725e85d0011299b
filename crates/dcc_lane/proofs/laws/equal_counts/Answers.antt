use Rattle.dcc_lane.specs.Ends.{number_of, put_of, taken_of}
use Rattle.dcc_lane.specs.Rule.{of}
use Rattle.dcc_lane.proofs.Ending.{whole_of}
use Rattle.dcc_lane.proofs.laws.equal_counts.Goals as goal

pub returns : goal.returns
returns g c = λ r s begun same. whole_of (of (number_of s) (taken_of r)) (put_of s) begun same
