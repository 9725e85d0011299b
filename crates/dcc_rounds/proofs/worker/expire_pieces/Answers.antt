use Rattle.std.proofs.Common.{◌∙◌, List, sym, subst, arith}
use Rattle.dcc_act.specs.declared.sub.Sub.{Sub}
use Rattle.dcc_rounds.specs.Working.{Expires, ExpiresEach}
use Rattle.dcc_rounds.proofs.Doings.{folds_both}
use Rattle.dcc_rounds.proofs.worker.expire_pieces.Goals as goal

pub loop-left-preserved : goal.loop-left-preserved
loop-left-preserved g c =
    let was = c.loop-left in
    let parts = c.split_at in
    let asked = c.expire_piece in
    record {
      expired = λ end more. was.invariant.expired end
          (subst (λ (subs : List Sub). ExpiresEach c.args.moment subs was.seat end) (sym parts.ensures.by_index.0)
          (folds_both (Expires c.args.moment) was.seat parts.result.0.now asked.new.seat parts.result.1.now end asked.ensures.expired more));
      left = omega (arith, was.invariant.left, asked.ensures.asked, parts.ensures.front_len, parts.ensures.back_len);
      calls = (
        asked.ensures.calls.0.0 ∙ was.invariant.calls.0,
        asked.ensures.calls.0.1 ∙ was.invariant.calls.1,
        asked.ensures.calls.0.2 ∙ was.invariant.calls.2,
      );
      shard = asked.ensures.calls.1 ∙ was.invariant.shard;
    }
