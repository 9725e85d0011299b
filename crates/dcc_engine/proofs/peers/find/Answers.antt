use Rattle.std.proofs.Common.{sym, ap, ◌∙◌}
use Rattle.dcc_engine.specs.declared.peers.PeerRow.{PeerRow}
use Rattle.dcc_engine.proofs.Places.{is_at, is_absent}
use Rattle.dcc_engine.proofs.peers.find.Goals as goal

pub returns-then-row-id-clause-found : goal.returns-then-row-id-clause-found
returns-then-row-id-clause-found c =
    let row = c.index-rows-i.result in
    is_at c.args.rows.now c.args.id c.loop-i.i row c.loop-i-test.true c.loop-i.invariant (ap (λ (r : PeerRow). r.id) (sym c.index-rows-i.is) ∙ c.if-row-id.true)

pub returns-clause-none : goal.returns-clause-none
returns-clause-none c = is_absent c.args.rows.now c.args.id c.loop-i.i c.loop-i-test.false c.loop-i.invariant
