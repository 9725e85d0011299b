use Rattle.std.proofs.Common.{List, ◌++◌, reverse, take, Option, sym, ap, ◌∙◌, arith}
use Rattle.std.specs.Prelude.{option_map}
use Rattle.std.specs.Option.{option_to_list}
use Rattle.dcc_act.specs.declared.entry.Entry.{Entry}
use Rattle.dcc_model.specs.Entries.{charge_entry, charge_entries}
use Rattle.dcc_model.proofs.Answering.{charge_more}
use Rattle.dcc_model.proofs.posting.charge_entries.Goals as goal

pub loop-service-preserved : goal.loop-service-preserved
loop-service-preserved c =
    let service = c.service-item.result in
    let one = c.in_ok-charge_entry.ensures ∙ ap (option_map (charge_entry c.args.place c.args.moment c.args.sid.now service)) c.charge-cost.ensures.value in
    let before = charge_entries c.args.terms.now (reverse c.args.past.now) c.args.place c.args.moment c.args.sid.now (take c.loop-service.service-index c.args.services.now) in
    c.in_ok-append.ensures
    ∙ ap (λ (es : List Entry). es ++ option_to_list c.in_ok-charge_entry.field-0) c.loop-service.invariant
    ∙ ap (λ (entry : Option Entry). before ++ option_to_list entry) one
    ∙ sym (charge_more c.args.terms.now (reverse c.args.past.now) c.args.place c.args.moment c.args.sid.now c.args.services.now c.loop-service.service-index service (omega arith) c.service-item.is)
