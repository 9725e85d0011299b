use Rattle.http1.specs.Framing.{method_kind}
use Rattle.dcc_client.specs.Requests.{method_of}
use Rattle.dcc_client.proofs.Asked.{found_in, unfit_in}
use Rattle.dcc_client.proofs.asking.ask.Goals as goal

pub returns-clause-found : goal.returns-clause-found
returns-clause-found g c =
    found_in (method_kind (method_of c.args.call.now)) c.args.call.now (g.R.Read.remaining c.args.input.now) c.in_ok-octets.octets.items
    c.in_ok-reply.reply.status c.in_ok-reply.reply.body.items c.answer_in.result c.in_ok-octets.ensures.whole
    (rw c.as_slice-2.ensures.value at (c.in_ok-reply.ensures.reply _ c.in_ok-client.ensures.sent)) c.answer_in.ensures.found

pub returns-clause-unfit : goal.returns-clause-unfit
returns-clause-unfit g c =
    unfit_in (method_kind (method_of c.args.call.now)) c.args.call.now (g.R.Read.remaining c.args.input.now) c.in_ok-octets.octets.items
    c.in_ok-reply.reply.status c.in_ok-reply.reply.body.items c.answer_in.result c.in_ok-octets.ensures.whole
    (rw c.as_slice-2.ensures.value at (c.in_ok-reply.ensures.reply _ c.in_ok-client.ensures.sent)) c.answer_in.ensures.unfit
