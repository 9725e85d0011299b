use Rattle.std.proofs.Common.{◌≡◌, ◌∙◌, ℕ, suc, ◌+◌, ◌-◌, Some, ap, sym, arith}
use Rattle.dcc_metrics.specs.Messages.{number_from}
use Rattle.dcc_metrics.proofs.Avps.{ends_here, found_here, goes_on, passed_all}
use Rattle.dcc_metrics.proofs.numbers.number_of.Goals as goal

pub returns-then-message-at : goal.returns-then-message-at
returns-then-message-at c =
    let at = c.loop-passed.at in
    let more = 31 - c.loop-passed._passed in
    let left : suc more ≡ 32 - c.loop-passed._passed = omega arith in
    sym (ends_here c.args.code more at c.args.message.now c.if-message-at.true)
    ∙ ap (λ (n : ℕ). number_from c.args.code n c.args.message.now at) left ∙ c.loop-passed.invariant.found

pub returns-then-has_number : goal.returns-then-has_number
returns-then-has_number c =
    let at = c.loop-passed.at in
    let more = 31 - c.loop-passed._passed in
    let left : suc more ≡ 32 - c.loop-passed._passed = omega arith in
    ap (λ (n : ℕ). Some n) c.u32_at.ensures
    ∙ sym (found_here c.args.code more at c.args.message.now c.if-message-at.false (sym c.has_number.ensures ∙ c.if-has_number.true))
    ∙ ap (λ (n : ℕ). number_from c.args.code n c.args.message.now at) left ∙ c.loop-passed.invariant.found

pub loop-passed-preserved : goal.loop-passed-preserved
loop-passed-preserved c =
    let at = c.loop-passed.at in
    let more = 31 - c.loop-passed._passed in
    let left : suc more ≡ 32 - c.loop-passed._passed = omega arith in
    let rest : 32 - (c.loop-passed._passed + 1) ≡ more = omega arith in
    record {
      found = ap (λ (n : ℕ). number_from c.args.code n c.args.message.now (at + c.step_at-at.result)) rest
          ∙ ap (λ (n : ℕ). number_from c.args.code more c.args.message.now (at + n)) c.step_at-at.ensures.value
          ∙ sym (goes_on c.args.code more at c.args.message.now c.if-message-at.false (sym c.has_number.ensures ∙ c.if-has_number.false))
          ∙ ap (λ (n : ℕ). number_from c.args.code n c.args.message.now at) left ∙ c.loop-passed.invariant.found;
      near = omega (arith, c.step_at-at.ensures.below, c.loop-passed.invariant.near);
    }

pub returns : goal.returns
returns c =
    let none : 0 ≡ 32 - c.loop-passed._passed = omega arith in
    sym (passed_all c.args.code c.loop-passed.at c.args.message.now)
    ∙ ap (λ (n : ℕ). number_from c.args.code n c.args.message.now c.loop-passed.at) none ∙ c.loop-passed.invariant.found
