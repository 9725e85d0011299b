use Rattle.std.proofs.Common.{◌≡◌, ◌*◌, ◌/◌, ◌<◌, ◌≤◌, ◌^◌, arith, le-leb, ap, ◌∙◌}
use Rattle.std.proofs.lemmas.Int.{to_z-of_z}
use Rattle.dcc_tariff.specs.Prices.{price}
use Rattle.dcc_tariff.specs.Terms.{TariffView}
use Rattle.dcc_tariff.proofs.PriceLemmas.{IsMost, all_of_it, whole_blocks, best_from_most, price_some}
use Rattle.dcc_tariff.proofs.prices.most_units.Goals as goal

whole : (c : goal.Then-price_of-money) → IsMost c.args.tariff c.args.asked c.args.free c.args.asked
whole c =
    let fits = c.ranges.free in
    let bound : price c.args.tariff c.args.asked ≤ 10 ^ 18 = rw (← c.price_of.ensures.value) c.price_of.ensures.bound in
    let enough : price c.args.tariff c.args.asked ≤ c.money_for_prices-money.result =
    rw (← c.price_of.ensures.value) c.if-price_of-money.true in
    let purse = simp to_z-of_z at c.money_for_prices-money.ensures in
    all_of_it c.args.tariff c.args.asked c.args.free (purse (price c.args.tariff c.args.asked) bound ∙ le-leb _ _ enough)

pub returns-then-price_of-money-clause-value : goal.returns-then-price_of-money-clause-value
returns-then-price_of-money-clause-value c = best_from_most c.args.tariff c.args.asked c.args.asked c.args.free (whole c)

pub nonzero_div-result : goal.nonzero_div-result
nonzero_div-result c =
    let price_is : c.tariff.inside.price ≡ c.args.tariff.price = ap (λ (r : TariffView). r.price) c.tariff.view_is in
    let block_is : c.tariff.inside.block ≡ c.args.tariff.block = ap (λ (r : TariffView). r.block) c.tariff.view_is in
    let some : 0 < price c.args.tariff c.args.asked = rw (← c.price_of.ensures.value) (omega arith) in
    let positive = price_some c.args.tariff c.args.asked (rw (← block_is) c.tariff.invariant.block_begun) some in
    omega (arith, c.from.ensures)

most : (c : goal.After-struct_known-1)
    → IsMost c.args.tariff c.args.asked c.args.free (c.money_for_prices-money.result / c.from.result * c.tariff.inside.block)
most c =
    let fits = c.ranges.free in
    let price_is : c.tariff.inside.price ≡ c.args.tariff.price = ap (λ (r : TariffView). r.price) c.tariff.view_is in
    let block_is : c.tariff.inside.block ≡ c.args.tariff.block = ap (λ (r : TariffView). r.block) c.tariff.view_is in
    let bound : price c.args.tariff c.args.asked ≤ 10 ^ 18 = rw (← c.price_of.ensures.value) c.price_of.ensures.bound in
    let short : c.money_for_prices-money.result < price c.args.tariff c.args.asked =
    rw (← c.price_of.ensures.value) c.if-price_of-money.false in
    let purse = simp to_z-of_z at c.money_for_prices-money.ensures in
    rw (c.from.ensures, price_is, block_is)
    (whole_blocks c.args.tariff c.args.asked c.money_for_prices-money.result c.args.free (rw (← block_is) c.tariff.invariant.block_begun) bound short purse)

pub overflow_mul-result : goal.overflow_mul-result
overflow_mul-result c = let up = (most c).up_to_asked in omega arith

pub returns-clause-value : goal.returns-clause-value
returns-clause-value c = best_from_most c.args.tariff c.args.asked _ c.args.free (most c)

pub returns-clause-up_to_asked : goal.returns-clause-up_to_asked
returns-clause-up_to_asked c = (most c).up_to_asked

pub returns-clause-affordable : goal.returns-clause-affordable
returns-clause-affordable c = (most c).affordable

pub returns-clause-greatest : goal.returns-clause-greatest
returns-clause-greatest c = (most c).greatest
