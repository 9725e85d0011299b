use Rattle.std.proofs.Common.{rules, tests}
use Rattle.std.proofs.lemmas.Iterator.{YieldsList-from_slice}
use Rattle.std.proofs.lemmas.Iterator.Consumers.{YieldsList-at, YieldsList-from_filter, nth_from_yields_List}
use Rattle.dcc_avp.specs.Spelling.{has_code}
use Rattle.dcc_avp.specs.declared.codes.TheConstants.{MULTIPLE_SERVICES_CREDIT_CONTROL}
use Rattle.dcc_ccr.proofs.contradiction.multi_at.Goals as goal

pub returns : goal.returns
returns c = nth_from_yields_List c.nth.result c.nth.new.self c.args.i c.nth.ensures.ran
    (YieldsList-from_filter _ (has_code MULTIPLE_SERVICES_CREDIT_CONTROL) (YieldsList-at c.filter.ensures.source (YieldsList-from_slice c.args.avps.now (cc)))
    c.filter.ensures.closure (λ x r q k. search (rules, tests)))
