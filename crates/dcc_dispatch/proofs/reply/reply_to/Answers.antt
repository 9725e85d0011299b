use Rattle.std.proofs.Common.{◌≡◌, true, [], refl, sym, ap, subst, ◌∙◌, inr}
use Rattle.dcc_base.specs.Peers.{hears}
use Rattle.dcc_base.specs.declared.reply.Reply.{Reply}
use Rattle.dcc_dispatch.specs.Refusals.{is_refusal}
use Rattle.dcc_dispatch.specs.Messages.{MessageView, message_view}
use Rattle.dcc_dispatch.specs.Dispatches.{IsReplied}
use Rattle.dcc_dispatch.proofs.Refusals.{nothing_is_one}
use Rattle.dcc_dispatch.proofs.Replies.{passed_over, answered, refused}
use Rattle.dcc_dispatch.proofs.reply.reply_to.Goals as goal

pub returns-then-not-hears : goal.returns-then-not-hears
returns-then-not-hears c =
    passed_over c.args.identity.now c.args.peer.now c.pass_over.new.self (message_view c.args.header c.args.octets.now) c.pass_over.result (sym c.hears.ensures ∙ c.if-not-hears.true) c.pass_over.ensures.turn

pub returns-in_default : goal.returns-in_default
returns-in_default c =
    let octets_are : c.staying.result.octets ≡ [] = ap (λ (r : Reply). r.octets) c.staying.ensures ∙ c.new.ensures in
    refused c.args.identity.now c.args.peer.now c.args.peer.now (message_view c.args.header c.args.octets.now) c.staying.result (sym c.hears.ensures ∙ c.if-not-hears.false)
    (ap is_refusal octets_are ∙ nothing_is_one) (inr octets_are) (ap (λ (r : Reply). r.close) c.staying.ensures) refl

pub returns-in-Ok-put_to : goal.returns-in-Ok-put_to
returns-in-Ok-put_to c =
    let identity = c.args.identity.now in
    let old = c.args.peer.now in
    let new = c.put_to.new.peer in
    let message = c.in-Ok.message in
    let reply = c.in-Ok-put_to.reply in
    let said = c.in-Ok-put_to.ensures in
    let heard : hears old message.header ≡ true = ap (λ (m : MessageView). hears old m.header) c.in-Ok.ensures ∙ sym c.hears.ensures ∙ c.if-not-hears.false in
    subst (λ (m : MessageView). IsReplied identity old new m reply) c.in-Ok.ensures (answered identity old new message reply heard said.busy said.some said.ok)
