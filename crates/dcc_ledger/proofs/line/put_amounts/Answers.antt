use Rattle.std.proofs.Common.{rules, ◌≡◌, ◌++◌, codes, ◌∙◌, string_bytes, [], ◌∷◌, append_assoc, FitsSigned, to_z, of_z, to_z-of_z, w64}
use Rattle.std.specs.Int.{w128}
use Rattle.std.specs.Fmt.{decimal, signed_decimal, styled_decimal, styled_signed_decimal}
use Rattle.dcc_ledger.specs.Columns.{padded_left, with_sign}
use Rattle.dcc_ledger.proofs.Padding.{digits_right, signed_right, with_sign_right}
use Rattle.dcc_ledger.proofs.line.put_amounts.Goals as goal

pub returns : goal.returns
returns c =
    let entry = c.args.entry.now in
    let funds_fit : FitsSigned w128 c.args.funds = c.ranges.funds in
    let amount_fits : FitsSigned w64 entry.amount = search rules in
    let written : string_bytes c.in_ok-columns.columns ≡ styled_decimal c.laid_out.result entry.units
    ++ 32 ∷ (styled_signed_decimal c.laid_out-2.result (to_z w64 (of_z w64 entry.amount))
    ++ 32 ∷ (styled_signed_decimal c.laid_out-3.result (to_z w128 (of_z w128 c.args.funds)) ++ 32 ∷ [])) = c.in_ok-columns.ensures.ok in
    let units = rw (c.laid_out.ensures, digits_right 13 (decimal entry.units)) at written in
    let amount = rw (c.laid_out-2.ensures, to_z-of_z amount_fits, with_sign_right 20 entry.amount) at units in
    let funds = rw (c.laid_out-3.ensures, to_z-of_z funds_fit, signed_right 20 c.args.funds) at amount in
    let columns : c.as_bytes.result.now ≡ padded_left 13 (decimal entry.units) ++ codes " " ++ padded_left 20 (with_sign entry.amount) ++ codes " "
    ++ padded_left 20 (signed_decimal c.args.funds) ++ codes " " = c.as_bytes.ensures.value ∙ funds ∙ simp append_assoc in
    rw (← columns) (search rules)
