use Rattle.std.proofs.Common.{◌≡◌, ◌∙◌, length, ap, arith}
use Rattle.std.proofs.lemmas.Result.{on_ok_weaker}
use Rattle.dcc_metrics.specs.declared.counts.ActCounts.{ActCounts}
use Rattle.dcc_metrics.proofs.meters.Meters.put_acts.Goals as goal

pub returns : goal.returns
returns c =
    let shards : length c.as_slice-shards.result.now ≡ c.args.self.now = omega (arith, ap length c.as_slice-shards.ensures.value, c.self.view_is) in
    let counts : ActCounts = record {
      acts = c.in_ok-acts.acts;
      repeats = c.in_ok-repeats.repeats;
      busy = c.in_ok-busy.busy;
      subscribers = c.in_ok-subscribers.subscribers;
    } in
    on_ok_weaker c.put_acts.result
    (λ text. (counts, c.in_ok-acts.ensures ∙ shards, c.in_ok-repeats.ensures ∙ shards, c.in_ok-busy.ensures ∙ shards, c.in_ok-subscribers.ensures ∙ shards, text)) c.put_acts.ensures
