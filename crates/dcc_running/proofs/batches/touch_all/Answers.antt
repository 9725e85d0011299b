use Rattle.std.proofs.Common.{◌≡◌, ◌∙◌, true, subst, arith}
use Rattle.dcc_act.specs.declared.sub.Sub.{Sub}
use Rattle.dcc_running.specs.inner.Touches.{is_touched}
use Rattle.dcc_running.proofs.Settling.{touched_more}
use Rattle.dcc_running.proofs.batches.touch_all.Goals as goal

pub loop-call-preserved : goal.loop-call-preserved
loop-call-preserved g c = record {
  touched = touched_more c.same_subscribers_are_equal.ensures c.loop-call.shard.touches c.touch.new.shard.touches c.args.calls.now c.loop-call.call-index c.call-item.result
      c.loop-call-test.true c.call-item.is c.loop-call.invariant.touched c.touch.ensures.others
      (subst (λ (s : Sub). is_touched c.touch.new.shard.touches s ≡ true) c.sub_of.ensures c.in_ok-touch.ensures.touched);
  room = omega (arith, c.loop-call.invariant.room, c.touch.ensures.few, c.touch.ensures.capacity);
  shard = c.touch.ensures.shard.0 ∙ c.loop-call.invariant.shard;
  records = c.touch.ensures.shard.1 ∙ c.loop-call.invariant.records;
}
