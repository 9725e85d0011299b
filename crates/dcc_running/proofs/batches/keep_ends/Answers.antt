use Rattle.std.proofs.Common.{ℕ, ◌∙◌, ◌≤◌, ◌++◌, List, length, take, sym, ap, append_assoc, add-one, arith}
use Rattle.std.proofs.lemmas.List.{take_all}
use Rattle.dcc_act.specs.declared.sub.Sub.{Sub}
use Rattle.dcc_receipts.specs.declared.receipt.Receipt.{Receipt}
use Rattle.dcc_running.specs.inner.Batches.{all_end_receipts, end_receipts}
use Rattle.dcc_shard.specs.declared.call.Reply.{Reply}
use Rattle.dcc_running.proofs.Batching.{as_many_ended, one_more_end}
use Rattle.dcc_running.proofs.batches.keep_ends.Goals as goal

pub bounds-replies-at : goal.bounds-replies-at
bounds-replies-at c = omega (arith, as_many_ended c.args.subs.now c.args.replies.now c.requires.replies, c.loop-at-test.true)

pub loop-at-preserved : goal.loop-at-preserved
loop-at-preserved c =
    let told = c.args.receipts.now.items in
    let subs = c.args.subs.now in
    let rs = c.args.replies.now in
    let at = c.loop-at.at in
    let moment = c.args.moment in
    let sub = c.index-subs-at.result in
    let r = c.index-replies-at.result in
    let here = end_receipts moment sub r in
    record {
      receipts = c.keep_end.ensures.receipts ∙ ap (λ (receipts : List Receipt). receipts ++ here) c.loop-at.invariant.receipts
          ∙ append_assoc told (all_end_receipts moment (take at subs) (take at rs)) here
          ∙ ap (λ (receipts : List Receipt). told ++ receipts)
          (sym (one_more_end moment subs rs at sub r c.loop-at-test.true (omega (arith, as_many_ended subs rs c.requires.replies, c.loop-at-test.true)) c.index-subs-at.is c.index-replies-at.is))
          ∙ ap (λ (n : ℕ). told ++ all_end_receipts moment (take n subs) (take n rs)) (sym (add-one at));
      few = omega (arith, c.keep_end.ensures.few, c.loop-at.invariant.few);
      room = c.keep_end.ensures.capacity ∙ c.loop-at.invariant.room;
    }

pub returns : goal.returns
returns c =
    let told = c.args.receipts.now.items in
    let subs = c.args.subs.now in
    let rs = c.args.replies.now in
    let at = c.loop-at.at in
    let many = as_many_ended subs rs c.requires.replies in
    let in_subs : length subs ≤ at = omega (arith, c.loop-at-test.false) in
    let in_rs : length rs ≤ at = omega (arith, c.loop-at-test.false, many) in
    c.loop-at.invariant.receipts ∙ ap (λ (xs : List Sub). told ++ all_end_receipts c.args.moment xs (take at rs)) (take_all at subs in_subs)
    ∙ ap (λ (ys : List Reply). told ++ all_end_receipts c.args.moment subs ys) (take_all at rs in_rs)
