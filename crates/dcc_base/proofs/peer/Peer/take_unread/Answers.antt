use Rattle.std.proofs.Common.{sym, ◌∙◌}
use Rattle.dcc_request.specs.Layout.{layout_fault}
use Rattle.dcc_base.proofs.Results.{none_busy}
use Rattle.dcc_base.proofs.Replies.{passed_unread, unread_is, unnamed_is}
use Rattle.dcc_base.proofs.peer.Peer.take_unread.Goals as goal

pub returns-then-not-hears-clause-ok : goal.returns-then-not-hears-clause-ok
returns-then-not-hears-clause-ok c =
    passed_unread c.args.identity.now c.args.self.now c.args.header.now (layout_fault c.args.fault.now) c.in-Some.broken
    (c.pass_over.result, c.pass_over.new.self) c.in-Some.ensures (sym c.hears.ensures ∙ c.if-not-hears.true) c.pass_over.ensures.turn

pub returns-in-Ok-clause-ok : goal.returns-in-Ok-clause-ok
returns-in-Ok-clause-ok c =
    unread_is c.args.identity.now c.args.self.now c.args.header.now (layout_fault c.args.fault.now) c.in-Some.broken c.in-Ok.field-0 _ c.refuse.result
    c.refuse.new.self c.in-Some.ensures (sym c.hears.ensures ∙ c.if-not-hears.false) (sym c.in-Ok.ensures) c.none-proxies.ensures c.refuse.ensures.ok

pub returns-clause-ok : goal.returns-clause-ok
returns-clause-ok c =
    unnamed_is c.args.identity.now c.args.self.now c.args.header.now (layout_fault c.args.fault.now) c.in-Some.broken c.in-Err.refused _ c.refuse-in-Err.result
    c.refuse-in-Err.new.self c.in-Some.ensures (sym c.hears.ensures ∙ c.if-not-hears.false) (sym c.in-Err.ensures) c.none-proxies.ensures c.refuse-in-Err.ensures.ok

pub returns-then-not-hears-clause-busy : goal.returns-then-not-hears-clause-busy
returns-then-not-hears-clause-busy c = none_busy c.pass_over.result.octets c.pass_over.ensures.none
