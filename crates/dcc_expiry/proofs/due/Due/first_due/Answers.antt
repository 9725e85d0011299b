use Rattle.std.proofs.Common.{◌≡◌, ◌≤◌, ◌<◌, suc, List, Some, sym, ap, subst, ◌∙◌, arith}
use Rattle.std.specs.Prelude.{slice_get, IfSome}
use Rattle.dcc_expiry.specs.Deadlines.{DueView, deadline_of, IsFirstDue}
use Rattle.dcc_expiry.specs.declared.row.Row.{Row}
use Rattle.dcc_expiry.proofs.Rows.{first_own, first_least}
use Rattle.dcc_expiry.proofs.due.Due.first_due.Goals as goal

pub returns-then-row-seconds-clause-none : goal.returns-then-row-seconds-clause-none
unfolding deadline_of
returns-then-row-seconds-clause-none c = λ sid.
    let first : slice_get c.self.inside.rows.items 0 ≡ Some c.in_ok-row.row.now = ap (λ (s : List Row). slice_get s 0) (sym c.deref.ensures.value) ∙ sym c.in_ok-row.ensures.value in
    let later : suc c.args.moment ≤ c.in_ok-row.row.now.deadline = omega (arith, c.seconds.ensures.value, c.if-row-seconds.true) in
    subst (λ (due : DueView). IfSome (deadline_of due sid) (λ deadline. c.args.moment < deadline)) c.self.view_is
    (first_least c.self.inside.rows.items c.in_ok-row.row.now (suc c.args.moment) first c.self.invariant.ordered later sid)

pub returns-clause-due : goal.returns-clause-due
unfolding deadline_of
returns-clause-due c =
    let row = c.in_ok-row.row.now in
    let first : slice_get c.self.inside.rows.items 0 ≡ Some row = ap (λ (s : List Row). slice_get s 0) (sym c.deref.ensures.value) ∙ sym c.in_ok-row.ensures.value in
    subst (λ (due : DueView). IsFirstDue due c.args.moment row.session) c.self.view_is (record {
      deadline = row.deadline;
      own = first_own c.self.inside.rows.items row first;
      come = omega (arith, c.seconds.ensures.value, c.if-row-seconds.false);
      least = first_least c.self.inside.rows.items row row.deadline first c.self.invariant.ordered (omega arith);
    })
