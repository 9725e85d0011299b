use Rattle.std.proofs.Common.{◌≡◌, List, [], ◌∷◌, ◌++◌, ◌∙◌, ap, sym, append-nil}
use Rattle.dcc_receipts.specs.declared.receipt.Receipt.{Receipt}
use Rattle.dcc_rounds.specs.declared.tasks.Task.{Task}
use Rattle.dcc_rounds.specs.declared.tasks.Task.TheVariants as task
use Rattle.dcc_rounds.proofs.Gathers.{attendants_next}
use Rattle.dcc_rounds.proofs.round.add_attendants.Goals as goal

pub loop-added-init : goal.loop-added-init
loop-added-init g c = sym (append-nil c.args.tasks.now.items)

pub loop-added-preserved : goal.loop-added-preserved
loop-added-preserved g c =
    let one : Task g.row.I.Denot g.row.O.Denot = task.Attend (record { seat = c.in_ok-seat.seat }) in
    attendants_next c.args.tasks.now.items c.loop-added.tasks.items c.push_reserved.new.self.items c.loop-added.added one c.loop-added.invariant
    (ap (λ (seat : List Receipt). let t : Task g.row.I.Denot g.row.O.Denot = task.Attend (record { seat = seat }) in t) c.in_ok-seat.ensures)
    (c.push_reserved.ensures.items ∙ ap (λ (ts : List (Task g.row.I.Denot g.row.O.Denot)). ts ++ one ∷ []) c.reserve.ensures.items)
