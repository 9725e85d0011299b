use Rattle.std.proofs.Common.{arith, sym}
use Rattle.dcc_words.proofs.WordLemmas.{IsUtf8-from_digits, number-no_digits, number-parsed, number-too_great, number-unparsed}
use Rattle.dcc_words.proofs.words.number.Goals as goal

pub returns-then-not-are_digits-clause-value : goal.returns-then-not-are_digits-clause-value
returns-then-not-are_digits-clause-value c = sym (number-no_digits c.args.limit c.args.word.now (sym c.if-not-are_digits.ensures))

pub returns-in_default-clause-value : goal.returns-in_default-clause-value
returns-in_default-clause-value c =
    absurd (c.in_default.ensures.cases.0 (IsUtf8-from_digits c.args.word.now (sym c.if-not-are_digits.ensures)))

pub returns-in_default-parse-clause-value : goal.returns-in_default-parse-clause-value
returns-in_default-parse-clause-value c =
    sym (number-unparsed c.args.limit c.args.word.now c.parse.result c.in_default-parse.field-0
    (sym c.if-not-are_digits.ensures) (omega (arith, c.ranges.limit))
    (rw c.in-Ok.ensures.cases.0 at c.parse.ensures.value.0) c.in_default-parse.is)

pub returns-then-number-limit-clause-value : goal.returns-then-number-limit-clause-value
returns-then-number-limit-clause-value c =
    sym (number-too_great c.args.limit c.args.word.now c.parse.result c.in-Ok-parse.number (sym c.if-not-are_digits.ensures)
    (rw c.in-Ok.ensures.cases.0 at c.parse.ensures.value.0) c.in-Ok-parse.is (omega arith))

pub returns-else-number-limit-clause-value : goal.returns-else-number-limit-clause-value
returns-else-number-limit-clause-value c =
    sym (number-parsed c.args.limit c.args.word.now c.parse.result c.in-Ok-parse.number (sym c.if-not-are_digits.ensures)
    (rw c.in-Ok.ensures.cases.0 at c.parse.ensures.value.0) c.in-Ok-parse.is (omega arith))
