use Rattle.std.proofs.Common.{◌≡◌, ◌+◌, List, [], ◌∷◌, ◌++◌, ◌∙◌, sym, ap, subst, take, arith}
use Rattle.std.proofs.lemmas.Fn.{FoldsTo-push}
use Rattle.std.proofs.lemmas.List.{take_all, take_more}
use Rattle.dcc_act.specs.declared.sub.Sub.{Sub}
use Rattle.dcc_receipts.specs.declared.receipt.Receipt.{Receipt}
use Rattle.dcc_running.specs.Batches.{CountsEach, EndsOne}
use Rattle.dcc_running.specs.Tallies.{no_tally}
use Rattle.dcc_running.specs.declared.tally.Tally.{Tally}
use Rattle.dcc_running.proofs.Batching.{ends_of_counted}
use Rattle.dcc_running.proofs.shards.Shards.expire_each.Goals as goal

pub loop-sub-preserved : goal.loop-sub-preserved
loop-sub-preserved g c =
    let items = c.args.subs.now in
    let i = c.loop-sub.sub-index in
    let sub = c.sub-item.result in
    let before : List Receipt × Tally = (c.loop-sub.seat, c.loop-sub.tally) in
    let after : List Receipt × Tally = (c.expire-answer.new.seat, c.with-tally.result) in
    let more : take (i + 1) items ≡ take i items ++ sub ∷ [] = take_more items i sub c.loop-sub-test.true ∙ ap (λ s. take i items ++ s ∷ []) (sym c.sub-item.is) in
    subst (λ (subs : List Sub). CountsEach c.args.moment subs c.args.seat.now c.expire-answer.new.seat c.with-tally.result) (sym more)
    (FoldsTo-push (EndsOne c.args.moment) (c.args.seat.now, no_tally) (take i items) before sub after c.loop-sub.invariant
    (c.expire-answer.result, c.expire-answer.ensures.answer, c.expire-answer.ensures.receipt, c.with-tally.ensures))

pub returns-clause-ends : goal.returns-clause-ends
returns-clause-ends g c =
    let items = c.args.subs.now in
    let all : take c.loop-sub.sub-index items ≡ items = take_all c.loop-sub.sub-index items (omega (arith, c.loop-sub-test.false)) in
    ends_of_counted c.args.moment items (c.args.seat.now, no_tally) (c.loop-sub.seat, c.loop-sub.tally)
    (subst (λ (subs : List Sub). CountsEach c.args.moment subs c.args.seat.now c.loop-sub.seat c.loop-sub.tally) all c.loop-sub.invariant)
