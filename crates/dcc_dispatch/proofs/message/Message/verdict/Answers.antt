use Rattle.std.proofs.Common.{◌≡◌, Ok, Some, sym, ap, subst, ◌∙◌}
use Rattle.std.proofs.lemmas.Result.{IfOk-weaker}
use Rattle.dcc_credit.specs.Acts.{act_of}
use Rattle.dcc_dispatch.specs.Verdicts.{asked_of}
use Rattle.dcc_request.specs.Sessions.{session_of}
use Rattle.dcc_dispatch.specs.Refusals.{is_refusal}
use Rattle.dcc_dispatch.specs.Messages.{MessageView, session}
use Rattle.dcc_dispatch.specs.inner.Known.{IsVerdict}
use Rattle.dcc_dispatch.proofs.Refusals.{answer_counts}
use Rattle.dcc_dispatch.proofs.Keys.{known_of}
use Rattle.dcc_dispatch.proofs.message.Message.verdict.Goals as goal

pub returns-in-Err-clause-known : goal.returns-in-Err-clause-known
returns-in-Err-clause-known c =
    ap is_refusal c.from_vec.ensures ∙ answer_counts c.in_ok-refusal-in-Err.refusal.items c.in_ok-refusal-in-Err.ensures.some c.in_ok-refusal-in-Err.ensures.not_busy

pub returns-in-Ok-read_ccr-clause-known : goal.returns-in-Ok-read_ccr-clause-known
returns-in-Ok-read_ccr-clause-known c =
    let request = c.in-Ok-read_ccr.request in
    let message : MessageView = record { header = c.self.inside.header; list = Ok c.in-Ok.avps.items } in
    let named : session message ≡ Some request.session = ap session_of (sym c.deref.ensures.value) ∙ c.in-Ok-read_ccr.ensures.session in
    let is_self : message ≡ c.args.self.now = rw c.in-Ok.is at c.self.view_is in
    let plan = c.args.plan.now in
    let host = c.args.host.now in
    let moment = c.args.moment in
    IfOk-weaker c.asked.result (λ verdict. verdict ≡ asked_of request.sub (act_of plan host request moment)) (λ verdict. IsVerdict c.args.self.now verdict)
    (λ verdict is. subst (λ (m : MessageView). IsVerdict m verdict) is_self (subst (IsVerdict message) (sym is) (known_of plan host moment message request named c.in-Ok-read_ccr.ensures.named)))
    c.asked.ensures

pub returns-in_ok-refusal-in-Err-Refused-clause-known : goal.returns-in_ok-refusal-in-Err-Refused-clause-known
returns-in_ok-refusal-in-Err-Refused-clause-known c =
    let step = c.in_ok-refusal-in-Err-Refused in
    ap is_refusal c.from_vec-in-Err-Refused.ensures ∙ answer_counts step.refusal.items step.ensures.some step.ensures.not_busy
