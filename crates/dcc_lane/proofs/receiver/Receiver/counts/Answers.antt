use Rattle.std.proofs.Common.{sym, arith, subst, ◌≡◌, ◌<◌, ◌∙◌, get_or, length}
use Rattle.std.proofs.lemmas.Grind.{get_or_default_zero}
use Rattle.dcc_lane.specs.Rule.{of}
use Rattle.dcc_lane.specs.Ends.{IsPutBy, AreCounts, taken_of}
use Rattle.dcc_lane.proofs.Ending.{each_snoc}
use Rattle.dcc_lane.proofs.receiver.Receiver.counts.Goals as goal

pub loop-number-preserved : goal.loop-number-preserved
loop-number-preserved g c =
    let r = c.args.self.now in
    let ss = c.args.senders.now in
    let n = c.loop-number.number in
    let here : n ≡ length c.loop-number.all.items = omega arith in
    let inside : n < length r.taken.items = omega arith in
    let read : c.index.result.now ≡ get_or r.taken.items n 0 = c.index.ensures ∙ get_or_default_zero r.taken.items n c.index.result.now inside in
    let taken : c.index.result.now ≡ length (of n (taken_of r)) = read ∙ r.counted n (omega arith) in
    record {
      count = omega arith;
      room = omega arith;
      counts = subst (AreCounts r ss) (sym c.push_reserved.ensures.items) (each_snoc (λ k d. IsPutBy ss k d.put × (d.taken ≡ length (of k (taken_of r)))) c.loop-number.all.items (record { put = c.in-Some.put; taken = c.index.result.now }) c.loop-number.invariant.counts (subst (λ k. IsPutBy ss k c.in-Some.put × (c.index.result.now ≡ length (of k (taken_of r)))) here (c.in-Some.ensures.some, taken)));
    }
