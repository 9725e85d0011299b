use Rattle.std.proofs.Common.{sym}
use Rattle.dcc_tariff.proofs.PriceLemmas.{price-is}
use Rattle.dcc_tariff.proofs.prices.price_of.Goals as goal

pub returns-clause-value : goal.returns-clause-value
returns-clause-value c =
    rw (← c.tariff.view_is, c.div_ceil.ensures, c.from.ensures)
    (sym (price-is (record { price = c.tariff.inside.price; block = c.tariff.inside.block }) c.args.units c.tariff.invariant.block_begun))
