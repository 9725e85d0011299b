use Rattle.std.proofs.lemmas.Result.{on_ok_weaker}
use Rattle.dcc_metrics.specs.declared.counts.ServerCounts.{ServerCounts}
use Rattle.dcc_metrics.proofs.meters.Meters.put_server.Goals as goal

pub returns : goal.returns
returns c =
    let counts : ServerCounts = record {
      gateways = c.saturating_sub.result;
      came = c.load-came.result;
      requests = c.in_ok-requests.requests;
      answers = c.in_ok-answers.answers;
    } in
    on_ok_weaker c.put_server.result (λ text. (counts, c.in_ok-requests.ensures, c.in_ok-answers.ensures, text)) c.put_server.ensures
