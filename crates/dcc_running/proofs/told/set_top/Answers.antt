use Rattle.std.proofs.Common.{◌≡◌, ◌∙◌, ◌==◌, ◌&&◌, true, cond, nat_lt, Some, sym, ap, ap₂, arith}
use Rattle.std.proofs.lemmas.Grind.{common_steps}
use Rattle.dcc_act.specs.Subs.{same_sub}
use Rattle.dcc_running.specs.inner.Told.{top_in}
use Rattle.dcc_running.proofs.told.set_top.Goals as goal

pub returns : goal.returns
returns c = λ s other.
    let none = c.if-receipt-eq0.false in
    let some : nat_lt 0 c.args.receipt.now.place ≡ true = grind (arith, common_steps) in
    let here = (c.args.seat == s) && same_sub c.args.receipt.now.sub other in
    c.in-Ok.ensures.updates.0 (s, other)
    ∙ ap₂ (λ b n. cond b (Some n) (top_in c.args.tops.now.entries s other)) (sym (ap (λ b. b && here) some)) c.top_after.ensures
