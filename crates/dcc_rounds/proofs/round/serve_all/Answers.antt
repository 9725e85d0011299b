use denote.Param.{copied, param}
use denote.Param.Send.{IsSync}
use mir.Syntax.{named}
use Rattle.dcc_rounds.proofs.Sharing.{shared_sync}
use Rattle.dcc_rounds.proofs.round.serve_all.Goals as goal

-- the bounds of the types, for each task
pub for_each_mut-requires-clause-accepts : goal.for_each_mut-requires-clause-accepts
for_each_mut-requires-clause-accepts g c κs within = λ i p below is.
    let t = c.type_bounds in (
      record { owned = t.send-R.owned; leaving = λ k x w. tt },
      record { owned = t.send-J.owned; leaving = λ k x w. tt },
      record { owned = t.send-I.owned; leaving = λ k x w. tt },
      record { owned = t.send-O.owned; leaving = λ k x w. tt },
      record { shared = t.sync-W.shared },
      record { shared = t.sync-R.shared },
      record { shared = t.sync-J.shared },
      record { shared = t.sync-L.shared },
      record { shared = t.sync-C.shared },
      record { shared = t.sync-N.shared },
    )

-- the same of what they share
pub for_each_mut-requires-sync-F : goal.for_each_mut-requires-sync-F
for_each_mut-requires-sync-F g c κs within =
    let t = c.type_bounds in
    let shared = shared_sync (param 1 g.row.R) (param 2 g.row.J) (param 5 g.row.L) (copied 6 g.row.C) (param 7 g.row.N) g.R.Records g.J.Naming
    t.send-R (record { shared = t.sync-R.shared }) t.send-J
    (record { shared = t.sync-J.shared }) (record { shared = t.sync-L.shared }) (record { shared = t.sync-C.shared }) (record { shared = t.sync-N.shared }) in
    let threads : IsSync (param 0 g.row.W) = record { shared = t.sync-W.shared } in
    record {
      shared = λ x b o κ. (
        (
          (λ q. tt, threads.shared x.0.now x.0.ref_ptr.0 x.0.ref_ptr.1 κs.1.1.1.1.1.1.0),
          ((λ q. tt, (shared (record { mir = named 8; lft = κs.1.1.1.1.1.1.1.1.0 })).shared x.1.now x.1.ref_ptr.0 x.1.ref_ptr.1 κs.1.1.1.1.1.1.1.0), tt),
        ),
        λ q. tt,
      );
    }
