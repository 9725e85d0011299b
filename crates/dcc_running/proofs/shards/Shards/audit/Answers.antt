use Rattle.std.proofs.Common.{rules, ◌≡◌, ◌∷◌, suc, drop, get_or, sym, ap, ◌∙◌}
use Rattle.std.proofs.Math.Seq.{drop-cons}
use Rattle.dcc_running.specs.Audited.{IsOrdered}
use Rattle.dcc_running.proofs.Reasons.{reason}
use Rattle.dcc_running.proofs.shards.Shards.audit.Goals as goal

pub returns-in-Err-clause-reason : goal.returns-in-Err-clause-reason
returns-in-Err-clause-reason g c =
    let before = c.loop-at.seat-inside.receipts.items in
    let at = c.loop-at.at in
    let first = get_or before at c.index.result.now in
    let same : before ≡ c.args.seat.now = search rules in
    let here : c.index.result.now ≡ first = search rules in
    let ordered : IsOrdered c.args.seat.now = search rules in
    reason c.in-Err.fault g.J.Naming.opening c.args.seat.now c.forget_first.new.receipts.items c.index.result.now (drop (suc at) before) ordered
    (c.forget_first.ensures ∙ (drop-cons before at c.index.result.now (search rules) ∙ ap (λ r. r ∷ drop (suc at) before) (sym here))) (search rules)
