use Rattle.std.proofs.Common.{refl, subst, length}
use Rattle.std.proofs.lemmas.Option.{slice_get_read}
use Rattle.std.proofs.lemmas.List.{take_all}
use Rattle.dcc_lane.specs.Ends.{HasNoneOf}
use Rattle.dcc_lane.proofs.search.put_by.Goals as goal

pub returns-then-sender-number-clause-some : goal.returns-then-sender-number-clause-some
returns-then-sender-number-clause-some g c =
    let s = c.sender-item.result in
    (s, (c.loop-sender.sender-index, slice_get_read c.args.senders.now (length c.args.senders.now) c.loop-sender.sender-index s refl c.loop-sender-test.true c.sender-item.is), c.if-sender-number.true, s.counted)

pub returns-clause-none : goal.returns-clause-none
returns-clause-none g c = subst (HasNoneOf c.args.number) (take_all c.loop-sender.sender-index c.args.senders.now c.loop-sender-test.false) c.loop-sender.invariant
