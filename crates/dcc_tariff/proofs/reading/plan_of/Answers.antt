use Rattle.std.proofs.Common.{[], ap, sym, ◌∙◌}
use Rattle.std.specs.List.{list_any}
use Rattle.std.proofs.lemmas.Bool.{and_from}
use Rattle.toml.specs.View.{array_view, items_view, table_view}
use Rattle.dcc_tariff.specs.Plans.{all_agree, is_of}
use Rattle.dcc_tariff.specs.PlanTexts.{versions_onto}
use Rattle.dcc_tariff.proofs.ReadingLemmas.{plan_of-parts}
use Rattle.dcc_tariff.proofs.reading.plan_of.Goals as goal

pub returns : goal.returns
returns c =
    let versions = c.in_ok-versions.versions.items in
    plan_of-parts (table_view c.args.table.now) (array_view c.in_ok-tables_at.field-0.now) _ (record {
      host = c.in_ok-host.ensures.value;
      realm = c.in_ok-realm.ensures.value;
      address = sym c.in_ok-address.ensures;
      shards = sym c.in_ok-shards.ensures.value;
      default_group = rw c.from.ensures at (sym c.in_ok-default_group.ensures.value);
      quantum = sym c.in_ok-quantum.ensures.value;
      terms = sym c.in_ok-terms.ensures;
      all_tables = sym c.in_ok-tables_at.ensures.value;
      versions = ap (λ vs. versions_onto [] (items_view vs)) (sym c.as_slice.ensures.value) ∙ c.in_ok-versions.ensures.value;
      agree = and_from (all_agree versions) (list_any (is_of c.in_ok-default_group.field-0) versions)
          (ap all_agree (sym c.as_slice-2.ensures.value) ∙ sym c.agree.ensures ∙ c.if-not-agree.false)
          (ap (list_any (is_of c.in_ok-default_group.field-0)) (sym c.as_slice-else-not-agree.ensures.value)
          ∙ sym c.has_group.ensures ∙ c.if-not-has_group.false);
    })
