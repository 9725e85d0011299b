use Rattle.std.proofs.Common.{◌≡◌, ◌<◌, ◌≤◌, ◌⊎◌, true, false, length, is_some, sym, ap, ◌∙◌, inl, inr, arith}
use Rattle.std.specs.List.{list_all}
use Rattle.std.proofs.lemmas.Bool.{cond-true, cond-false, eqb-true, eqb-false}
use Rattle.toml.specs.Data.{as_table}
use Rattle.toml.specs.View.{view, items_view, array_view, table_view}
use Rattle.dcc_tariff.specs.PlanTexts.{in_range}
use Rattle.dcc_tariff.specs.inner.Seen.{seen_by}
use Rattle.dcc_tariff.proofs.TableLemmas.{tables_at-found, not_few, few}
use Rattle.dcc_tariff.proofs.tables.tables_at.Goals as goal
use Rattle.dcc_tariff.proofs.tables.tables_at.Goals.{then-is_empty-via-then-is_empty, then-is_empty-via-else-is_empty+then-len-gt-MAX_TABLES}

pub returns-then-not-are_tables-clause-value : goal.returns-then-not-are_tables-clause-value
returns-then-not-are_tables-clause-value c =
    let items = c.in_ok-tables.tables.now.items in
    let found = sym c.array_at.ensures ∙ ap (seen_by (λ tables. array_view tables.now)) c.in_ok-tables.was in
    let others : list_all (λ value. is_some (as_table (view value))) items ≡ false =
    ap (list_all (λ value. is_some (as_table (view value)))) (sym c.as_slice.ensures.value) ∙ sym c.are_tables.ensures
    ∙ c.if-not-are_tables.true in
    sym (tables_at-found c.args.key.now (table_view c.args.table.now) items found ∙ cond-false _ _ _ others)

pub returns-then-is_empty-clause-value : goal.returns-then-is_empty-clause-value
returns-then-is_empty-clause-value c =
    let items = c.in_ok-tables.tables.now.items in
    let found = sym c.array_at.ensures ∙ ap (seen_by (λ tables. array_view tables.now)) c.in_ok-tables.was in
    let tables : list_all (λ value. is_some (as_table (view value))) items ≡ true =
    ap (list_all (λ value. is_some (as_table (view value)))) (sym c.as_slice.ensures.value) ∙ sym c.are_tables.ensures
    ∙ c.if-not-are_tables.false in
    let len = ap length (sym c.as_slice.ensures.value) ∙ c.as_slice.ensures.len in
    let outside : (length items ≡ 0) ⊎ (1000 < length items) = elim c.then-is_empty.branch [
      | then-is_empty-via-then-is_empty w ↦ inl (len ∙ eqb-true _ 0 (sym c.is_empty.ensures ∙ w.if-is_empty.true))
      | then-is_empty-via-else-is_empty+then-len-gt-MAX_TABLES w ↦ inr (omega (arith, w.len.ensures, w.if-len-gt-MAX_TABLES.true, len))
    ] in
    sym (tables_at-found c.args.key.now (table_view c.args.table.now) items found ∙ cond-true _ _ _ tables
    ∙ ap (λ b. in_range b (items_view items)) (not_few (length items) outside))

pub returns-clause-value : goal.returns-clause-value
returns-clause-value c =
    let items = c.in_ok-tables.tables.now.items in
    let found = sym c.array_at.ensures ∙ ap (seen_by (λ tables. array_view tables.now)) c.in_ok-tables.was in
    let tables : list_all (λ value. is_some (as_table (view value))) items ≡ true =
    ap (list_all (λ value. is_some (as_table (view value)))) (sym c.as_slice.ensures.value) ∙ sym c.are_tables.ensures
    ∙ c.if-not-are_tables.false in
    let len = ap length (sym c.as_slice.ensures.value) ∙ c.as_slice.ensures.len in
    let some = λ (none : length items ≡ 0). eqb-false _ 0 (sym c.is_empty.ensures ∙ c.if-is_empty.false) (sym len ∙ none) in
    let within : length items ≤ 1000 = omega (arith, len, c.len.ensures, c.if-len-gt-MAX_TABLES.false) in
    sym (tables_at-found c.args.key.now (table_view c.args.table.now) items found ∙ cond-true _ _ _ tables
    ∙ ap (λ b. in_range b (items_view items)) (few (length items) some within))
