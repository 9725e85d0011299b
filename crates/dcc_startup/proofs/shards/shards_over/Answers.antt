use Rattle.std.proofs.Common.{◌≡◌, ◌≤◌, inl, inr, ℕ, length, length, Ok, sym, ap, subst, ◌∙◌}
use Rattle.std.proofs.lemmas.List.{length-map}
use Rattle.dcc_startup.proofs.Listed.{of_values, of_error}
use Rattle.dcc_startup.proofs.shards.shards_over.Goals as goal

pub returns-in-Ok-clause-started : goal.returns-in-Ok-clause-started
returns-in-Ok-clause-started g c =
    let all = c.in-Ok.ensures.all in
    let e = c.in_ok-opened.ensures in
    let same : length c.in_ok-opened.opened.items ≡ length c.in-Ok.shards.items = ap length all ∙ length-map c.in-Ok.shards.items Ok in
    record {
      count_is = sym same ∙ e.count;
      some = subst (λ (n : ℕ). 1 ≤ n) same e.few.0;
      most = subst (λ (n : ℕ). n ≤ 8) same e.few.1;
      each = of_values _ _ c.args.plan.now.shards c.in_ok-opened.opened.items c.in-Ok.shards.items all e.count e.each;
    }

pub returns-in-Err-clause-refused : goal.returns-in-Err-clause-refused
returns-in-Err-clause-refused g c =
    let e = c.in_ok-opened.ensures in
    elim (c.in-Err.ensures.first) [
      | inl memory ↦ inl memory
      | inr first ↦ inr (of_error _ _ c.args.plan.now.shards c.in_ok-opened.opened.items c.in-Err.refusal first e.count e.each)
    ]
