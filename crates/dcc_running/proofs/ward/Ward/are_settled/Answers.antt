use Rattle.std.proofs.Common.{subst}
use Rattle.dcc_running.specs.inner.Wards.{AreSettled, WardView, shard_in}
use Rattle.dcc_running.proofs.ward.Ward.are_settled.Goals as goal

pub returns : goal.returns
returns g c =
    subst (λ (p : WardView g.row.R.Denot). AreSettled g.J.Naming.opening p.place (shard_in p) p.touches p.told.receipts) c.self.view_is c.self.invariant.2
