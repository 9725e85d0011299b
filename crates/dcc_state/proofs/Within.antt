-- Money that can be reckoned with.
use Rattle.std.proofs.Common.{reverse, ap, arith}
use Rattle.std.proofs.lemmas.Int.{ints}
use Rattle.dcc_model.specs.declared.judgement.Standing.{Standing}
use Rattle.dcc_model.specs.Laws.{FundsAreLimited, FreeIsCovered, LiveAreOpen}
use Rattle.dcc_model.specs.Outcomes.{history, funds, free, overrun}
use Rattle.dcc_state.specs.Known.{MoneyIsWithin}
use Rattle.dcc_state.proofs.Totals.{held_is}

pub within : FundsAreLimited → FreeIsCovered → LiveAreOpen → MoneyIsWithin
unfolding funds free overrun
within limited covered are_open terms xs standing sessions keyed standing_is sessions_are far =
    let low = (limited terms xs).0 in
    let high = (limited terms xs).1 in
    let over = covered terms xs keyed in
    let held = held_is terms (history terms (reverse xs)) sessions (are_open terms xs) sessions_are in
    let funds_is = ap (λ (s : Standing). s.funds) standing_is in
    let free_is = ap (λ (s : Standing). s.free) standing_is in
    let overrun_is = ap (λ (s : Standing). s.overrun) standing_is in
    record {
      funds_low = omega (arith, ints);
      funds_high = omega (arith, ints);
      free_low = omega (arith, ints);
      free_high = omega (arith, ints);
      overrun_low = omega (arith, ints);
      overrun_high = omega (arith, ints);
      held = omega (arith, ints);
    }
