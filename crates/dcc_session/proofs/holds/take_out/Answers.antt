use Rattle.std.proofs.Common.{◌≡◌, List, map, ap, sym, ◌∙◌, Some, None}
use Rattle.std.specs.Prelude.{position, remove}
use Rattle.std.proofs.lemmas.List.Quantifiers.{position-Some}
use Rattle.dcc_escrow.specs.Pools.{HoldView}
use Rattle.dcc_session.specs.Grants.{live_in, without}
use Rattle.dcc_session.specs.declared.held.Held.{Held}
use Rattle.dcc_session.specs.inner.Holds.{hold_of}
use Rattle.dcc_session.proofs.Taking.{is_for, taken_at, not_there, remove-map}
use Rattle.dcc_session.proofs.holds.take_out.Goals as goal

pub returns-in_default-clause-taken : goal.returns-in_default-clause-taken
returns-in_default-clause-taken c =
    let none : position (is_for c.args.key) c.args.grants.now.items ≡ None = ap (position (is_for c.args.key)) (sym c.deref.ensures.value) ∙ sym c.place.ensures ∙ c.in_default.is in
    sym (not_there c.args.grants.now.items c.args.key none).0

pub returns-in_default-clause-grants : goal.returns-in_default-clause-grants
returns-in_default-clause-grants c =
    let none : position (is_for c.args.key) c.args.grants.now.items ≡ None = ap (position (is_for c.args.key)) (sym c.deref.ensures.value) ∙ sym c.place.ensures ∙ c.in_default.is in
    sym (not_there c.args.grants.now.items c.args.key none).1

taken : (c : goal.After-remove-hold) → (live_in c.args.grants.now.items c.args.key ≡ Some c.remove-held.result.grant)
    × (remove c.args.grants.now.items c.in-Some.at ≡ without c.args.grants.now.items c.args.key)
taken c =
    let some : position (is_for c.args.key) c.args.grants.now.items ≡ Some c.in-Some.at = ap (position (is_for c.args.key)) (sym c.deref.ensures.value) ∙ sym c.place.ensures ∙ c.in-Some.is in
    let found = position-Some (is_for c.args.key) c.args.grants.now.items c.in-Some.at c.remove-held.result some in
    let there = taken_at c.args.grants.now.items c.args.key c.in-Some.at c.remove-held.result found.0 found.1 found.2 c.requires.apart in
    (there.0 ∙ ap (λ (held : Held). Some held.grant) (sym c.remove-held.ensures.value), there.1)

pub returns-clause-taken : goal.returns-clause-taken
returns-clause-taken c = sym (taken c).0

pub returns-clause-grants : goal.returns-clause-grants
returns-clause-grants c = c.remove-held.ensures.items ∙ (taken c).1

pub returns-clause-holds : goal.returns-clause-holds
returns-clause-holds c = λ pool is.
    c.remove-hold.ensures.items ∙ ap (λ (holds : List HoldView). remove holds c.in-Some.at) is
    ∙ remove-map (hold_of pool) c.args.grants.now.items c.in-Some.at ∙ ap (map (hold_of pool)) (sym c.remove-held.ensures.items)
