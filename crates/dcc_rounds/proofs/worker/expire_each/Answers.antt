use Rattle.std.proofs.Common.{◌≡◌, ◌+◌, [], ◌∷◌, ◌++◌, ◌∙◌, sym, ap, subst, take, arith}
use Rattle.std.proofs.lemmas.Fn.{FoldsTo-push}
use Rattle.std.proofs.lemmas.List.{take_more}
use Rattle.dcc_rounds.specs.Working.{Expires, ExpiresEach}
use Rattle.dcc_rounds.proofs.worker.expire_each.Goals as goal

pub loop-sub-preserved : goal.loop-sub-preserved
loop-sub-preserved g c =
    let items = c.args.subs.now in
    let i = c.loop-sub.sub-index in
    let sub = c.sub-item.result in
    let more : take (i + 1) items ≡ take i items ++ sub ∷ [] = take_more items i sub c.loop-sub-test.true ∙ ap (λ s. take i items ++ s ∷ []) (sym c.sub-item.is) in
    record {
      expired = subst (λ subs. ExpiresEach c.args.moment subs c.args.seat.now c.ask-answer.new.seat) (sym more)
          (FoldsTo-push (Expires c.args.moment) c.args.seat.now (take i items) c.loop-sub.seat sub c.ask-answer.new.seat c.loop-sub.invariant.expired c.ask-answer.ensures.expires);
      left = omega arith;
      calls = (
        c.ask-answer.ensures.calls.0.0 ∙ c.loop-sub.invariant.calls.0,
        c.ask-answer.ensures.calls.0.1 ∙ c.loop-sub.invariant.calls.1,
        c.ask-answer.ensures.calls.0.2 ∙ c.loop-sub.invariant.calls.2,
      );
      shard = c.ask-answer.ensures.calls.1 ∙ c.loop-sub.invariant.shard;
    }
