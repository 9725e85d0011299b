use Rattle.std.proofs.Common.{◌≡◌, [], ◌++◌, List, ap, ◌∙◌}
use Rattle.dcc_expiry.specs.Deadlines.{DueView, deadline_in, deadline_of, count_of}
use Rattle.dcc_expiry.specs.declared.row.Row.{Row}
use Rattle.dcc_expiry.proofs.Rows.{no_rows}
use Rattle.dcc_expiry.proofs.due.Due.grow.Goals as goal

moved : (c : goal.After-drop-self-inside) → c.append.new.self.items ≡ c.self.inside.rows.items
moved c =
    let none : c.larger.inside.rows.items ≡ [] = no_rows c.larger.inside.rows.items (ap count_of c.larger.view_is ∙ c.requires.empty c.in-Some.larger c.in-Some.is) in
    c.append.ensures.items ∙ rw c.unwrap.ensures (ap (λ (rows : List Row). rows ++ c.self.inside.rows.items) none)

pub invariant_of-self : goal.invariant_of-self
invariant_of-self c = rw (moved c) c.self.invariant

pub returns-in-Some-clause-deadlines : goal.returns-in-Some-clause-deadlines
unfolding deadline_of
returns-in-Some-clause-deadlines c = λ sid.
    ap (λ (rows : List Row). deadline_in rows sid) (moved c) ∙ ap (λ (due : DueView). deadline_of due sid) c.self.view_is
