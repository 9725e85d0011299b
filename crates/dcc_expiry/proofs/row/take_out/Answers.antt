use Rattle.std.proofs.Common.{◌≡◌, Bool, None, Some, not, List, sym, ap, ◌∙◌}
use Rattle.std.specs.Prelude.{filter, position}
use Rattle.std.proofs.lemmas.List.Quantifiers.{position-Some}
use Rattle.std.proofs.lemmas.List.Kept.{IsNonDecreasingBy-filter}
use Rattle.dcc_expiry.specs.Deadlines.{deadline_in, same_session}
use Rattle.dcc_expiry.specs.declared.row.Row.{Row}
use Rattle.dcc_expiry.proofs.Rows.{nowhere, without_at, deadline_without, once_without}
use Rattle.dcc_expiry.proofs.row.take_out.Goals as goal

removed : (c : goal.After-drop-remove) → c.remove.new.self.items ≡ filter (λ (row : Row). not (same_session row.session c.args.sid.now)) c.args.rows.now.items
removed c =
    let rows = c.args.rows.now.items in
    let test : Row → Bool = λ row. same_session row.session c.args.sid.now in
    let some : position test rows ≡ Some c.in-Some.at = ap (position test) (sym c.deref.ensures.value) ∙ sym c.place.ensures ∙ c.in-Some.is in
    let found = position-Some test rows c.in-Some.at c.remove.result some in
    c.remove.ensures.items ∙ without_at rows c.args.sid.now c.in-Some.at c.remove.result found.0 found.1 found.2 c.requires.once

pub returns-in-Some-clause-rows : goal.returns-in-Some-clause-rows
returns-in-Some-clause-rows c = rw (removed c) (record {
  ordered = IsNonDecreasingBy-filter (λ (row : Row). row.deadline) (λ (row : Row). not (same_session row.session c.args.sid.now)) c.args.rows.now.items c.requires.ordered;
  once = once_without c.args.rows.now.items c.args.sid.now c.requires.once;
})

pub returns-in-Some-clause-deadlines : goal.returns-in-Some-clause-deadlines
returns-in-Some-clause-deadlines c = λ other. ap (λ (rows : List Row). deadline_in rows other) (removed c) ∙ deadline_without c.args.rows.now.items c.args.sid.now other

pub returns-in_default-clause-deadlines : goal.returns-in_default-clause-deadlines
returns-in_default-clause-deadlines c = λ other.
    let rows = c.args.rows.now.items in
    let test : Row → Bool = λ row. same_session row.session c.args.sid.now in
    let none : position test rows ≡ None = ap (position test) (sym c.deref.ensures.value) ∙ sym c.place.ensures ∙ c.in_default.is in
    ap (λ (all : List Row). deadline_in all other) (sym (nowhere rows c.args.sid.now none)) ∙ deadline_without rows c.args.sid.now other
