use Rattle.std.proofs.Common.{ℕ, List, subst}
use Rattle.dcc_client.specs.inner.Reading.{IsBody}
use Rattle.dcc_client.proofs.Replies.{reply_from, rest_of}
use Rattle.dcc_client.proofs.reply.reply_of.Goals as goal

pub returns-clause-reply : goal.returns-clause-reply
returns-clause-reply c =
    λ method sent. reply_from method c.args.client.now c.head_of.new.client c.args.octets.now c.in_ok-len.len c.in_ok-len.status c.in_ok-body.body.items sent
    (c.in_ok-len.ensures.heads method sent)
    (subst (λ (l : List ℕ). IsBody c.head_of.new.client l c.in_ok-body.body.items) (rest_of c.args.octets.now c.in_ok-len.len) c.in_ok-body.ensures.body)
