use Rattle.std.proofs.lemmas.Result.{on_ok_weaker}
use Rattle.dcc_metrics.specs.declared.counts.TimeCounts.{TimeCounts}
use Rattle.dcc_metrics.proofs.meters.Meters.put_times.Goals as goal

pub returns : goal.returns
returns c =
    let counts : TimeCounts = record { buckets = c.in_ok-buckets_of.field-0; micros = c.sum_of.result } in
    on_ok_weaker c.put_times.result (λ text. (counts, c.in_ok-buckets_of.ensures, text)) c.put_times.ensures
