use Rattle.std.proofs.Common.{◌≡◌, ◌∙◌, length, ap, arith}
use Rattle.std.proofs.lemmas.Result.{on_ok_weaker}
use Rattle.dcc_metrics.specs.declared.counts.AuditCounts.{AuditCounts}
use Rattle.dcc_metrics.proofs.meters.Meters.put_audits.Goals as goal

pub returns : goal.returns
returns c =
    let shards : length c.as_slice-shards.result.now ≡ c.args.self.now = omega (arith, ap length c.as_slice-shards.ensures.value, c.self.view_is) in
    let counts : AuditCounts = record {
      audits = c.in_ok-audits.audits;
      receipts = c.in_ok-receipts.receipts;
      micros = c.sum_of.result;
    } in
    on_ok_weaker c.put_audits.result (λ text. (counts, c.in_ok-audits.ensures ∙ shards, c.in_ok-receipts.ensures ∙ shards, text)) c.put_audits.ensures
