use Rattle.std.proofs.Common.{[], refl, arith}
use Rattle.dcc_request.specs.Layout.{unread}
use Rattle.dcc_credit.specs.Refusals.{nothing, taken_from}
use Rattle.dcc_credit.proofs.Taken.{none_short, taken_short}
use Rattle.dcc_credit.proofs.Messages.{told_not_busy, answer_least}
use Rattle.dcc_credit.proofs.Refusals.{refusal_not_busy, refusal_least, lacking, unfound_not_busy}
use Rattle.dcc_avp.specs.declared.codes.TheConstants.{SUBSCRIPTION_ID}
use Rattle.dcc_credit.proofs.Spelled.{answerable}
use Rattle.dcc_credit.proofs.laws.told_apart.Goals as goal

pub returns : goal.returns
returns c = record {
  answered = λ identity terms request proxies outcome server limits p.
      told_not_busy c.busy_by_result.ensures.told c.read_back.ensures.size identity terms request proxies outcome (answerable identity outcome server limits) p;
  answered_some = answer_least c.busy_by_result.ensures.some;
  refused = λ identity request avps proxies refusal server few p.
      refusal_not_busy c.busy_by_result.ensures.told identity request (taken_from avps) proxies refusal server (taken_short avps)
      (c.read_back-2.ensures.shown refusal.failed few) p;
  unread = λ identity request fault server.
      let few = c.shown_within.ensures.unread fault in
      refusal_not_busy c.busy_by_result.ensures.told identity request nothing [] (unread fault) server none_short
      (c.read_back-2.ensures.shown (unread fault).failed (omega arith)) ([], tt, refl);
  unfound = λ identity request act proxies server short p.
      let least = c.shown_within.ensures.missing SUBSCRIPTION_ID in
      unfound_not_busy c.busy_by_result.ensures.told identity request act proxies server short
      (c.read_back-2.ensures.shown (lacking SUBSCRIPTION_ID).failed (omega (arith, least))) p;
  refused_some = refusal_least c.busy_by_result.ensures.some;
}
