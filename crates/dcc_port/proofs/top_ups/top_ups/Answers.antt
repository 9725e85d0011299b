use Rattle.std.proofs.Common.{ℕ, List, ap, sym, subst}
use Rattle.dcc_port.specs.Sheets.{sheet_of}
use Rattle.dcc_port.specs.declared.sheet.Kind.TheVariants.{Plain}
use Rattle.dcc_port.proofs.top_ups.top_ups.Goals as goal

pub returns-clause-told : goal.returns-clause-told
returns-clause-told g c =
    let text = c.make_each.new.text.items in (
      sheet_of Plain 200 c.as_slice.result.now,
      c.put_reserved.ensures,
      record {
        moment = c.moment-moment.result;
        told_at = c.moment-moment.ensures;
        text = text;
        made = c.make_each.ensures.made;
        says = ap (λ (t : List ℕ). sheet_of Plain 200 t) c.as_slice.ensures.value;
      },
    )
