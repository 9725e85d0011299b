use Rattle.std.proofs.Common.{◌<◌, List, [], ◌∷◌, ◌++◌, length, take, arith, Vec, Global, Option, Some, None, sym, ap, ◌∙◌, append-nil}
use Rattle.std.specs.Prelude.{option_map}
use Rattle.dcc_act.specs.Services.{ServiceView}
use Rattle.dcc_act.specs.declared.entry.Entry.{Entry}
use Rattle.dcc_model.specs.Entries.{charge_entry}
use Rattle.dcc_session.specs.Grants.{charge_in}
use Rattle.dcc_state.specs.inner.Grants.{charge_entries_in}
use Rattle.dcc_state.proofs.Walks.{filter_map_more}
use Rattle.dcc_state.proofs.after.charge_entries.Goals as goal
use Rattle.dcc_state.proofs.after.charge_entries.Goals.{in-Some+in_ok-push, in_default}

pub loop-service-preserved : goal.loop-service-preserved
loop-service-preserved c =
    let own = c.args.own.now in
    let i = c.loop-service.service-index in
    let service = c.service-item.result in
    let lt : i < length c.args.services.now = omega arith in
    let entry_of : ServiceView → Option Entry = λ service. option_map (charge_entry c.args.place c.args.moment c.args.sid.now service) (charge_in own service) in
    let gives = c.in_ok-entry.ensures ∙ ap (option_map (charge_entry c.args.place c.args.moment c.args.sid.now service)) c.charge-cost.ensures.value in
    let more = λ (found : Option Entry). filter_map_more entry_of c.args.services.now i service found lt c.service-item.is in
    let before = charge_entries_in own c.args.place c.args.moment c.args.sid.now (take i c.args.services.now) in
    elim c.match-branch-2.branch [
      | in-Some+in_ok-push w ↦
          ap (λ (v : Vec Entry Global). v.items) w.entries-is ∙ w.in_ok-push.ensures.items
          ∙ ap (λ (es : List Entry). es ++ w.in-Some.entry ∷ []) c.loop-service.invariant ∙ sym (more (Some w.in-Some.entry) (sym gives ∙ w.in-Some.is))
      | in_default w ↦
          ap (λ (v : Vec Entry Global). v.items) w.entries-is ∙ c.loop-service.invariant ∙ sym (append-nil before) ∙ sym (more None (sym gives ∙ w.in_default.is))
    ]
