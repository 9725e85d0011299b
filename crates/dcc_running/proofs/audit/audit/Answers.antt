use Rattle.std.proofs.Common.{rules}
use Rattle.dcc_running.specs.Audited.{AreTrue}
use Rattle.dcc_running.proofs.Tops.{seats_placed}
use Rattle.dcc_running.proofs.audit.audit.Goals as goal

pub are_ordered-requires : goal.are_ordered-requires
are_ordered-requires g c =
    let are : AreTrue g.J.Naming.opening c.args.books.now c.args.seats.now = search rules in
    record { placed = seats_placed g.J.Naming.opening c.args.books.now c.args.seats.now are }
