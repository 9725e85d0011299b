use Rattle.std.proofs.Common.{rules, ◌≡◌, ◌++◌, codes, ◌∙◌, string_bytes, [], ◌∷◌, append_assoc}
use Rattle.std.specs.Fmt.{decimal, styled_decimal, styled_text}
use Rattle.dcc_ledger.specs.Moments.{moment_text}
use Rattle.dcc_ledger.specs.Columns.{padded_left, padded_right}
use Rattle.dcc_ledger.specs.Ledger.{word_of}
use Rattle.dcc_ledger.proofs.Padding.{digits_right, word_left}
use Rattle.dcc_ledger.proofs.line.put_act.Goals as goal

pub returns : goal.returns
returns c =
    let entry = c.args.entry.now in
    let written : string_bytes c.in_ok-columns.columns ≡ styled_decimal c.laid_out.result entry.place
    ++ 32 ∷ (string_bytes c.in_ok-moment.moment ++ 32 ∷ (styled_text c.laid_out-2.result c.word_of-kind.result.now ++ 32 ∷ [])) =
    c.in_ok-columns.ensures.ok in
    let place = rw (c.laid_out.ensures, digits_right 8 (decimal entry.place)) at written in
    let kind = rw (c.in_ok-moment.ensures, c.laid_out-2.ensures, c.word_of-kind.ensures, word_left entry.kind) at place in
    let columns : c.as_bytes.result.now ≡ padded_left 8 (decimal entry.place) ++ codes " " ++ moment_text entry.moment ++ codes " "
    ++ padded_right 6 (word_of entry.kind) ++ codes " " = c.as_bytes.ensures.value ∙ kind ∙ simp append_assoc in
    rw (← columns) (search rules)
