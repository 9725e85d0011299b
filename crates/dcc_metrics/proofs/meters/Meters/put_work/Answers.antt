use Rattle.std.proofs.Common.{◌≡◌, ◌∙◌, length, ap, arith}
use Rattle.std.proofs.lemmas.Result.{on_ok_weaker}
use Rattle.dcc_metrics.specs.declared.counts.WorkCounts.{WorkCounts}
use Rattle.dcc_metrics.proofs.meters.Meters.put_work.Goals as goal

pub returns : goal.returns
returns c =
    let shards : length c.as_slice-shards.result.now ≡ c.args.self.now = omega (arith, ap length c.as_slice-shards.ensures.value, c.self.view_is) in
    let counts : WorkCounts = record {
      sweeps = c.in_ok-sweeps.sweeps;
      ended = c.in_ok-ended.ended;
      batches = c.in_ok-batches.batches;
      items = c.in_ok-items.items;
    } in
    on_ok_weaker c.put_work.result
    (λ text. (counts, c.in_ok-sweeps.ensures ∙ shards, c.in_ok-ended.ensures ∙ shards, c.in_ok-batches.ensures ∙ shards, c.in_ok-items.ensures ∙ shards, text)) c.put_work.ensures
