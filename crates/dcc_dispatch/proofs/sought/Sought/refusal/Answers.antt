use Rattle.std.proofs.Common.{◌≡◌, false, ap, subst, ◌∙◌}
use Rattle.dcc_credit.specs.Refusals.{unfound_octets}
use Rattle.dcc_dispatch.specs.Refusals.{is_refusal}
use Rattle.dcc_dispatch.specs.Sought.{SoughtView}
use Rattle.dcc_dispatch.proofs.Refusals.{answer_counts}
use Rattle.dcc_dispatch.proofs.sought.Sought.refusal.Goals as goal

pub returns-in-Ok : goal.returns-in-Ok
returns-in-Ok c =
    let said = c.in-Ok.ensures in
    let counts : is_refusal c.from_vec.result ≡ false = ap is_refusal c.from_vec.ensures ∙ answer_counts c.in-Ok.octets.items said.some said.not_busy in
    rw counts
    (subst (λ (s : SoughtView). c.from_vec.result ≡ unfound_octets c.args.identity.now s.header s.act s.proxies) c.self.view_is (c.from_vec.ensures ∙ said.exact))
