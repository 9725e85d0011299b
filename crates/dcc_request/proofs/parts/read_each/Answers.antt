use Rattle.std.proofs.Common.{sym, ◌∙◌}
use Rattle.std.specs.Prelude.{filter}
use Rattle.dcc_request.specs.Refusals.{each}
use Rattle.dcc_request.proofs.Walks.{one_read, one_passed}
use Rattle.dcc_request.proofs.parts.read_each.Goals as goal
use Rattle.dcc_request.proofs.parts.read_each.Goals.{then-holds+in_ok-read+in_ok-push, else-holds}

pub loop-avp-preserved : goal.loop-avp-preserved
loop-avp-preserved g c =
    let part_of = g.P.Parts.part_of in
    let holds = g.P.Parts.holds c.args.kind.now in
    let total = each part_of (filter holds c.args.avps.now) in
    elim c.if-holds.branch [
      | then-holds+in_ok-read+in_ok-push w ↦ rw (w.parts-is, w.in_ok-push.ensures.items)
          (one_read part_of holds c.args.avps.now c.loop-avp.avp-index c.avp-item.result c.loop-avp.parts.items w.in_ok-read.field-0 total
          c.loop-avp-test.true c.avp-item.is (sym c.holds.ensures ∙ w.if-holds.true) w.in_ok-read.ensures c.loop-avp.invariant)
      | else-holds w ↦ rw w.parts-is
          (one_passed part_of holds c.args.avps.now c.loop-avp.avp-index c.avp-item.result c.loop-avp.parts.items total
          c.loop-avp-test.true c.avp-item.is (sym c.holds.ensures ∙ w.if-holds.false) c.loop-avp.invariant)
    ]
