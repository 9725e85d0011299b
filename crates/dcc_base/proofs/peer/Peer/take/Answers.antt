use Rattle.std.proofs.Common.{Ok, Err, refl, sym, ◌∙◌}
use Rattle.dcc_request.specs.Sessions.{session_of}
use Rattle.dcc_base.proofs.Replies.{passed, read_is}
use Rattle.dcc_base.proofs.Results.{none_busy}
use Rattle.dcc_base.proofs.Sizes.{shown_few}
use Rattle.dcc_base.proofs.peer.Peer.take.Goals as goal

pub returns-then-not-hears-clause-ok : goal.returns-then-not-hears-clause-ok
returns-then-not-hears-clause-ok c =
    passed c.args.identity.now c.args.self.now c.args.header.now (Ok c.args.avps.now) (c.pass_over.result, c.pass_over.new.self)
    (sym c.hears.ensures ∙ c.if-not-hears.true) c.pass_over.ensures.turn

pub returns-in-Ok-clause-ok : goal.returns-in-Ok-clause-ok
returns-in-Ok-clause-ok c =
    read_is c.args.identity.now c.args.self.now c.args.header.now c.args.avps.now (session_of c.args.avps.now) _ (Ok c.in-Ok.effect) c.accept.result
    c.accept.new.self (sym c.hears.ensures ∙ c.if-not-hears.false) c.in-Ok.ensures refl c.in_ok-proxies.ensures (c.accept.ensures.ok (session_of c.args.avps.now))

pub refuse-requires : goal.refuse-requires
refuse-requires c = record {
  small = shown_few c.shown_within.ensures.missing c.args.header.now c.args.avps.now c.in-Err-Refused.refused
      (c.shown_within.ensures.list c.args.avps.now c.requires.small)
      (λ command. c.shown_within.ensures.refused command c.args.avps.now c.requires.small)
      (λ command. c.shown_within.ensures.groups command c.args.avps.now c.requires.small)
      (rw c.in-Err-Refused.field-0-is at c.in-Err-Refused.ensures);
}

pub returns-in-Err-Refused-clause-ok : goal.returns-in-Err-Refused-clause-ok
returns-in-Err-Refused-clause-ok c =
    read_is c.args.identity.now c.args.self.now c.args.header.now c.args.avps.now c.session_id-session.result _ (Err c.in-Err-Refused.refused) c.refuse.result
    c.refuse.new.self (sym c.hears.ensures ∙ c.if-not-hears.false) (rw c.in-Err-Refused.field-0-is at c.in-Err-Refused.ensures) c.session_id-session.ensures
    c.in_ok-proxies.ensures c.refuse.ensures.ok

pub returns-then-not-hears-clause-busy : goal.returns-then-not-hears-clause-busy
returns-then-not-hears-clause-busy c = none_busy c.pass_over.result.octets c.pass_over.ensures.none
