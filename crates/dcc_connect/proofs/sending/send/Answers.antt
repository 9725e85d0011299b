use Rattle.std.proofs.Common.{arith}
use Rattle.dcc_connect.proofs.Octets.{sent_more}
use Rattle.dcc_connect.proofs.sending.send.Goals as goal

pub loop-at-preserved : goal.loop-at-preserved
loop-at-preserved g c =
    let i = c.loop-at.invariant in
    let w = c.in_ok-at.ensures in
    let more = sent_more _ _ _ c.args.octets.now c.loop-at.at c.in_ok-at.field-0 i.within w.1 i.out w.2 in
    let written = w.3 in
    let left = w.4 in
    let some = w.0 in
    let was = i.written in
    let fewer = i.fewer in
    let turns = i.turns in
    record { within = more.0; out = more.1; written = omega arith; fewer = omega arith; turns = omega arith }
