use Rattle.std.proofs.Common.{rules, ◌≡◌, None, Ok, sym, ap, ◌∙◌, arith}
use Rattle.std.specs.List.{sum_by}
use Rattle.dcc_avp.specs.Spelling.{padded_len}
use Rattle.dcc_ccr.specs.Services.{services_of}
use Rattle.dcc_ccr.specs.Contradictions.{contradiction}
use Rattle.dcc_ccr.specs.Requests.{ValuesView, values_of}
use Rattle.dcc_ccr.proofs.Limits.{limits}
use Rattle.dcc_ccr.proofs.Forms.{stand, one_service}
use Rattle.dcc_ccr.proofs.Bounds.{Laws, clear_bounded}
use Rattle.dcc_ccr.proofs.Sizes.{FewValues, values_bounded, values_few, few_ids}
use Rattle.dcc_ccr.proofs.Named.{named}
use Rattle.dcc_ccr.proofs.Shown.{contradiction_shown, stop_within}
use Rattle.dcc_ccr.proofs.read.read_ccr.Goals as goal

-- the type's limits follow from the checks that were made
pub invariant_of-result : goal.invariant_of-result
invariant_of-result c =
    let v = c.values.inside in
    let agrees : contradiction v.kind v.multi.items c.args.avps.now ≡ None = search (rules) in
    let made : services_of v.kind v.single v.multi.items ≡ c.in_ok-services.services.items = search (rules) in
    let keeps = limits c.args.avps.now c.in_ok-check.field-0.items v.kind v.single v.multi.items c.in_ok-check.ensures (search (rules)) agrees in
    let laws : Laws = record { list = c.list_within.ensures; unread = c.shown_within.ensures.unread; missing = c.shown_within.ensures.missing; each = c.shown_within.ensures.list } in
    let few = values_few laws c.args.avps.now (omega arith) _ (c.in_ok-values.ensures.value ∙ ap (λ (v : ValuesView). Ok v) (sym c.values.view_is)) in
    let ids = few_ids (sum_by padded_len c.args.avps.now) v.kind v.single v.multi.items c.requires.small few.1 few.2 in
    let right = stand v.kind v.single v.multi.items (search (rules)) in
    let one = one_service v.kind v.single v.multi.items c.args.avps.now (search (rules)) agrees in
    (search (rules), rw (sym made) keeps, rw (sym made) ids, rw (sym made) right, rw (sym made) one)

pub returns-in_err-values-clause-shown : goal.returns-in_err-values-clause-shown
returns-in_err-values-clause-shown c =
    let laws : Laws = record { list = c.list_within.ensures; unread = c.shown_within.ensures.unread; missing = c.shown_within.ensures.missing; each = c.shown_within.ensures.list } in
    let shown = stop_within (FewValues c.args.avps.now) _ c.values_of.result (values_of c.args.avps.now) c.values_of.ensures.value (values_bounded laws c.args.avps.now (omega arith)) in
    search (rules, shown)

pub returns-in_err-clear-clause-shown : goal.returns-in_err-clear-clause-shown
returns-in_err-clear-clause-shown c =
    let v = c.values.inside in
    let shown = clear_bounded (contradiction v.kind v.multi.items c.args.avps.now) (contradiction_shown v.kind v.multi.items c.args.avps.now (omega arith)) in
    search (rules, shown)

pub returns-clause-session : goal.returns-clause-session
returns-clause-session c =
    let laws : Laws = record { list = c.list_within.ensures; unread = c.shown_within.ensures.unread; missing = c.shown_within.ensures.missing; each = c.shown_within.ensures.list } in
    let few = values_few laws c.args.avps.now (omega arith) _ (c.in_ok-values.ensures.value ∙ ap (λ (v : ValuesView). Ok v) (sym c.values.view_is)) in
    few.0

pub returns-clause-named : goal.returns-clause-named
returns-clause-named c =
    let v = c.values.inside in
    named c.args.avps.now c.in_ok-check.field-0.items _ c.in_ok-check.ensures (c.in_ok-values.ensures.value ∙ ap (λ (v : ValuesView). Ok v) (sym c.values.view_is))
