use Rattle.std.proofs.Common.{◌≡◌, ℕ, ◌+◌, cond, rules, arith, ap}
use Rattle.dcc_receipts.proofs.Marked.{more, fewer, of_own}
use Rattle.dcc_receipts.proofs.marks.Marks.add_all.Goals as goal

pub returns-then-not-branch-clause-double : goal.returns-then-not-branch-clause-double
returns-then-not-branch-clause-double c = λ _.
    let r = c.receipt-item.result in
    let i = c.loop-receipt.receipt-index in
    let d = c.in_ok-add_fresh.ensures.double (search rules) in
    let so_far = c.loop-receipt.invariant r.sub r.place in
    let one = more r.sub r.place c.args.receipts.now i r (search rules) (search rules) in
    let all = fewer r.sub r.place c.args.receipts.now (i + 1) in
    let marked = ap {B = ℕ} (λ b. cond b 1 0) d.1 in
    let fresh = ap {B = ℕ} (λ b. cond b 1 0) (of_own c.same_subscribers_are_equal.ensures r d.0) in
    (r.sub, r.place, omega (arith, so_far, one, all, marked, fresh))

pub loop-receipt-preserved : goal.loop-receipt-preserved
loop-receipt-preserved c = λ sub place.
    let added = c.in_ok-add_fresh.ensures.single (search rules) sub place in
    let so_far = c.loop-receipt.invariant sub place in
    let one = more sub place c.args.receipts.now c.loop-receipt.receipt-index c.receipt-item.result (search rules) (search rules) in
    omega (arith, added, so_far, one)
