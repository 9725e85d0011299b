use Rattle.std.proofs.Common.{◌≡◌, length, arith, subst}
use Rattle.dcc_lane.specs.Ends.{AreCounts, senders_of}
use Rattle.dcc_lane.proofs.Ending.{all_heard}
use Rattle.dcc_lane.proofs.receiver.Receiver.finish.Goals as goal

pub returns-in-Ok-clause-counts : goal.returns-in-Ok-clause-counts
returns-in-Ok-clause-counts g c = (c.in-Ok.ensures.len, subst (λ ss. AreCounts c.args.self ss c.in-Ok.counts.items) c.as_slice.ensures.value c.in-Ok.ensures.ok)

pub returns-in-Ok-clause-heard : goal.returns-in-Ok-clause-heard
returns-in-Ok-clause-heard g c =
    let some = c.in-Ok.ensures.len in
    let len : length c.in-Ok.counts.items ≡ senders_of c.args.self = omega arith in
    all_heard c.args.self c.args.senders.items c.in-Ok.counts.items c.args.self.numbered len
    (subst (λ ss. AreCounts c.args.self ss c.in-Ok.counts.items) c.as_slice.ensures.value c.in-Ok.ensures.ok) c.join.ensures
