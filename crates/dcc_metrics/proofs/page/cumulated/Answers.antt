use Rattle.std.proofs.Common.{rules}
use Rattle.dcc_metrics.proofs.Lines.{buckets_next, buckets_end}
use Rattle.dcc_metrics.proofs.page.cumulated.Goals as goal

pub loop-number-preserved : goal.loop-number-preserved
loop-number-preserved c = record {
  all = buckets_next c.args.numbers.now c.loop-number.number-index c.loop-number.so_far c.saturating_add-so_far.result c.loop-number.all.items
      c.push.new.self.items _ c.loop-number-test.true c.saturating_add-so_far.ensures c.in_ok-push.ensures.items c.loop-number.invariant.all;
  count = search rules;
}

pub returns-clause-all : goal.returns-clause-all
returns-clause-all c =
    buckets_end c.args.numbers.now c.loop-number.number-index c.loop-number.so_far c.loop-number.all.items _ c.loop-number-test.false
    c.loop-number.invariant.all
