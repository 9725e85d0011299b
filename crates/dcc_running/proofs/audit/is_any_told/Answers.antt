use Rattle.std.proofs.Common.{◌≡◌, ℕ, true, false, refl, subst, ◌∙◌, sym, inl, inr}
use Rattle.dcc_act.specs.declared.sub.Sub.{Sub}
use Rattle.dcc_running.specs.Audited.{times_in}
use Rattle.dcc_running.specs.Books.{told_in}
use Rattle.dcc_running.proofs.Telling.{next_time, own_time}
use Rattle.dcc_running.proofs.audit.is_any_told.Goals as goal
use Rattle.dcc_running.proofs.audit.is_any_told.Goals.{else-receipt-via-then-receipt+else-is_told, else-receipt-via-else-receipt}

pub loop-receipt-preserved : goal.loop-receipt-preserved
loop-receipt-preserved c = λ sub place some.
    let r = c.receipt-item.result in
    elim (next_time sub place c.args.receipts.now c.loop-receipt.receipt-index r c.loop-receipt-test.true c.receipt-item.is some) [
      | inl earlier ↦ c.loop-receipt.invariant sub place earlier
      | inr this ↦ elim c.else-receipt.branch [
        | else-receipt-via-then-receipt+else-is_told w ↦
            subst (λ (s : Sub). times_in s place (told_in c.args.sides.now) ≡ 0) ((c.same_subscribers_are_equal.ensures r.sub sub).0 this.0)
            (subst (λ (p : ℕ). times_in r.sub p (told_in c.args.sides.now) ≡ 0) this.2 (w.is_told.ensures.no w.if-is_told.false))
        | else-receipt-via-else-receipt w ↦ (let no : false ≡ true = sym w.if-receipt.false ∙ this.1 in absurd cc)
      ]
    ]

pub returns-then-is_told-clause-yes : goal.returns-then-is_told-clause-yes
returns-then-is_told-clause-yes c = λ _.
    let r = c.receipt-item.result in (
      r.sub,
      r.place,
      own_time c.args.receipts.now c.loop-receipt.receipt-index r c.loop-receipt-test.true c.receipt-item.is c.if-receipt.true
          ((c.same_subscribers_are_equal.ensures r.sub r.sub).1 refl),
      c.is_told.ensures.yes c.if-is_told.true,
    )
