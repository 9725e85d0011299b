use Rattle.dcc_tariff.proofs.PriceLemmas.{price_grows}
use Rattle.dcc_tariff.proofs.laws.prices_never_fall.Goals as goal

pub returns : goal.returns
returns c = price_grows
