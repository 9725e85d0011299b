use Rattle.std.proofs.Common.{ap, arith}
use Rattle.std.proofs.lemmas.Int.{ints}
use Rattle.dcc_model.specs.Money.{funds_of}
use Rattle.dcc_model.proofs.Lookback.{latest_first}
use Rattle.dcc_model.proofs.money.funds.Goals as goal

pub loop-i-preserved : goal.loop-i-preserved
loop-i-preserved c = record {
  funds =
      let more = ap (funds_of c.args.terms.now) (latest_first c.args.past.now c.loop-i.i c.index-past-i.result (omega arith) c.index-past-i.is) in
      let before = c.loop-i.invariant.funds in
      let value = c.change-funds.ensures.value in
      omega (arith, ints);
  low = omega (arith, ints);
  high = omega (arith, ints);
}
