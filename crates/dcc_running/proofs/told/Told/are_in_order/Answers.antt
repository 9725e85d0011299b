use Rattle.dcc_running.specs.inner.Told.{numbers}
use Rattle.dcc_running.proofs.Tops.{had_in_order}
use Rattle.dcc_running.proofs.told.Told.are_in_order.Goals as goal

pub returns : goal.returns
returns c = λ seat sub.
    rw (← c.self.view_is) (had_in_order c.orders_agree.ensures c.self.inside.tops.entries (numbers c.self.inside.seats.items) c.self.inside.seen c.self.invariant.1 seat sub)
