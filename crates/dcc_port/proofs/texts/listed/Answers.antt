use Rattle.std.proofs.Common.{true, false, ap, ◌∙◌}
use Rattle.dcc_port.proofs.Listing.{listed_next, listed_end}
use Rattle.dcc_port.proofs.texts.listed.Goals as goal
use Rattle.dcc_port.proofs.texts.listed.Goals.{then-stopped+in_ok-put_index, else-stopped}

pub loop-i-preserved : goal.loop-i-preserved
loop-i-preserved c =
    elim c.if-stopped.branch [
      | then-stopped+in_ok-put_index w ↦
          listed_next c.args.told.now c.loop-i.i c.loop-i.text.items c.if-stopped.text.items true c.loop-i-test.true w.if-stopped.true
          (ap (λ v. v.items) w.text-is ∙ w.in_ok-put_index.ensures) c.loop-i.invariant
      | else-stopped w ↦
          listed_next c.args.told.now c.loop-i.i c.loop-i.text.items c.if-stopped.text.items false c.loop-i-test.true w.if-stopped.false
          (ap (λ v. v.items) w.text-is) c.loop-i.invariant
    ]

pub returns : goal.returns
returns c = listed_end c.args.told.now c.loop-i.i c.loop-i.text.items c.loop-i-test.false c.loop-i.invariant
