use Rattle.dcc_tariff.proofs.PriceLemmas.{best_up_to_asked, best_affordable, best_greatest}
use Rattle.dcc_tariff.proofs.laws.best_grant_is_the_greatest_covered.Goals as goal

pub returns-clause-up_to_asked : goal.returns-clause-up_to_asked
returns-clause-up_to_asked c = best_up_to_asked

pub returns-clause-covered : goal.returns-clause-covered
returns-clause-covered c = best_affordable

pub returns-clause-greatest : goal.returns-clause-greatest
returns-clause-greatest c = best_greatest
