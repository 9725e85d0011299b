use Rattle.std.proofs.Common.{ap, ◌∙◌}
use Rattle.dcc_base.specs.declared.reply.Reply.{Reply}
use Rattle.dcc_dispatch.specs.Settings.{Setting}
use Rattle.dcc_dispatch.specs.Messages.{message_view}
use Rattle.dcc_dispatch.specs.Verdicts.{verdict_of}
use Rattle.dcc_dispatch.proofs.Charges.{passed_over}
use Rattle.dcc_dispatch.proofs.decide.charge.Goals as goal

pub returns-in_default : goal.returns-in_default
returns-in_default c =
    let setting : Setting = record { plan = c.args.plan.now; identity = c.args.identity.now } in
    let none = ap (λ (r : Reply). r.octets) c.staying.ensures ∙ c.new.ensures in
    let message = message_view c.args.header c.args.octets.now in
    (passed_over setting.identity message (verdict_of setting c.args.moment c.args.host.now message) c.staying.result.octets none, ap (λ (r : Reply). r.close) c.staying.ensures)
