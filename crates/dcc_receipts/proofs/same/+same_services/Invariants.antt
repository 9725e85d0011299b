use Rattle.std.proofs.Common.{length}
use Rattle.dcc_receipts.proofs.same.+same_services.Given as goal

abbrev pub decreases-same_services : goal.decreases-same_services
decreases-same_services l = length l.a.now
