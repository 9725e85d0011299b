use Rattle.std.proofs.Common.{rules, ◌≡◌, List, ap, ◌∙◌, filter, not, sum_by, arith}
use Rattle.std.proofs.lemmas.Int.{ints}
use Rattle.std.proofs.lemmas.Fn.{filter_same}
use Rattle.dcc_model.specs.Sessions.{Live}
use Rattle.dcc_model.specs.Money.{held_price, is_replaced}
use Rattle.dcc_model.proofs.money.reserved_beside.Goals as goal

pub returns-clause-value : goal.returns-clause-value
returns-clause-value c =
    let stays = λ (held : Live). not (is_replaced c.args.sid.now c.args.services.now held) in
    let kept : c.retain.new.self.items ≡ filter stays c.in_ok-held.held.items = filter_same _ stays _ (λ x b f' k. search rules) _ _ c.retain.ensures.filtered in
    let seen = ap (λ (held : List Live). sum_by held_price held) (c.deref.ensures.value ∙ kept ∙ ap (λ (held : List Live). filter stays held) c.in_ok-held.ensures) in
    let value = c.reserved.ensures.value in
    omega (arith, ints)
