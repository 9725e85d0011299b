use Rattle.std.proofs.Common.{rules, ◌≡◌, ◌++◌, ℕ, ◌+◌, arith, List, take, ℤ, ◌+ℤ◌, FitsSigned, to_z, of_z, to_z-of_z, take_all, sym, ◌∙◌, ap, w64}
use Rattle.std.specs.Int.{w128}
use Rattle.jiff_core.proofs.SignedLemmas.{signed_arith, fits_between}
use Rattle.dcc_ledger.specs.Ledger.{account_line, ledger_text, sum_of}
use Rattle.dcc_ledger.proofs.Lines.{line_step, last_line, sum_of-more}
use Rattle.dcc_ledger.proofs.ledger.ledger_text.Goals as goal

pub loop-entry-preserved : goal.loop-entry-preserved
loop-entry-preserved c =
    let entry = c.entry-item.result in
    let i = c.loop-entry.entry-index in
    let before = to_z w128 c.loop-entry.funds-bits in
    let narrow : FitsSigned w64 entry.amount = search rules in
    let wide : FitsSigned w128 entry.amount = fits_between w128 entry.amount (omega (arith, signed_arith)) in
    let fits : FitsSigned w128 (before +ℤ entry.amount) = fits_between w128 (before +ℤ entry.amount) (omega (arith, signed_arith)) in
    let after : to_z w128 (of_z w128 (before +ℤ to_z w128 (of_z w128 c.from-funds.result))) ≡ before +ℤ entry.amount =
    rw (c.from-funds.ensures, to_z-of_z narrow, to_z-of_z wide, to_z-of_z fits) in
    let sum : before +ℤ entry.amount ≡ sum_of (take (i + 1) c.args.entries.now) =
    ap (λ (z : ℤ). z +ℤ entry.amount) c.loop-entry.invariant.funds
    ∙ sym (sum_of-more c.args.entries.now i entry c.loop-entry-test.true c.entry-item.is) in
    record {
      funds = after ∙ sum;
      low = rw after (omega (arith, signed_arith));
      high = rw after (omega (arith, signed_arith));
      text = line_step c.args.entries.now i entry c.loop-entry.text.items c.put_entry.new.text.items _ c.loop-entry-test.true c.entry-item.is
          c.loop-entry.invariant.text (rw (after ∙ sum) at c.in_ok-put_entry.ensures);
    }

pub returns : goal.returns
unfolding ledger_text
returns c =
    let entries = c.args.entries.now in
    let reserved_fits : FitsSigned w128 c.args.reserved = c.ranges.reserved in
    let overrun_fits : FitsSigned w128 c.args.overrun = c.ranges.overrun in
    let lines = last_line entries c.loop-entry.entry-index c.loop-entry.text.items _ c.loop-entry-test.false c.loop-entry.invariant.text in
    let funds = c.loop-entry.invariant.funds ∙ ap sum_of (take_all c.loop-entry.entry-index entries c.loop-entry-test.false) in
    let last = rw (to_z-of_z reserved_fits, to_z-of_z overrun_fits, funds) at c.in_ok-put_account.ensures in
    last ∙ ap (λ (text : List ℕ). text ++ account_line (sum_of entries) c.args.reserved c.args.overrun) lines
