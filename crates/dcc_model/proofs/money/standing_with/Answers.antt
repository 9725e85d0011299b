use Rattle.std.proofs.Common.{◌≡◌, ◌∷◌, ◌∙◌, List, reverse, ap, pos, arith, sum_by}
use Rattle.std.proofs.lemmas.Int.{ints}
use Rattle.dcc_model.specs.Sessions.{Live}
use Rattle.dcc_model.specs.Money.{held_price, reserved_of}
use Rattle.dcc_model.proofs.Answering.{standing_is}
use Rattle.dcc_model.proofs.money.standing_with.Goals as goal

pub returns : goal.returns
returns c =
    let terms = c.args.terms.now in
    let past = reverse c.args.past.now in
    let done = c.args.done.now in
    let before = c.funds.ensures.value in
    let changed = c.change.ensures.value in
    let held : c.reserved.result ≡ pos (reserved_of terms (done ∷ past)) =
    c.reserved.ensures.value ∙ ap (λ (live : List Live). pos (sum_by held_price live)) (c.deref.ensures.value ∙ c.in_ok-held.ensures) in
    let over = c.overrun.ensures.value in
    let more = c.overran.ensures.value in
    standing_is terms (done ∷ past) _ (omega (arith, ints)) (omega (arith, ints)) (omega (arith, ints))
