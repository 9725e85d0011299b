use Rattle.std.proofs.Common.{None, ap, inl, append-nil, refl, sym, ◌∙◌}
use Rattle.dcc_connect.specs.Writing.{items_of}
use Rattle.dcc_lane.specs.Ends.{taken_of}
use Rattle.dcc_rounds.proofs.Doings.{one_step}
use Rattle.dcc_rounds.proofs.worker.Worker.ask_piece.Goals as goal

pub returns-clause-goes : goal.returns-clause-goes
returns-clause-goes g c =
    let old = c.args.self.now in
    let asked = c.ask_next.ensures in
    one_step g.J.Naming.opening old (record old { seat = c.ask_next.new.seat; counter = c.ask_next.new.counter; from = c.ring.new.self }) c.args.rest.now c.ask_next.new.rest None 0
    (ap items_of c.ring.ensures.taken ∙ sym (append-nil (items_of (taken_of old.from)))) (inl (c.min-count.result, asked.expired, asked.left, asked.moment, refl, asked.calls.0.2))
    (asked.calls.0.0, asked.calls.1, asked.calls.0.1) asked.counted refl c.ring.ensures.same refl refl
