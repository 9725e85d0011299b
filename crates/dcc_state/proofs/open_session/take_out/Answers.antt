use Rattle.std.proofs.Common.{◌≡◌, ap, sym, ◌∙◌, Some, None, filter, not}
use Rattle.std.specs.Prelude.{position, remove}
use Rattle.std.proofs.lemmas.List.Quantifiers.{position-Some}
use Rattle.dcc_state.specs.OpenSessions.{SessionView, is_session, own_in}
use Rattle.dcc_state.proofs.Taken.{taken_at, nowhere, not_there}
use Rattle.dcc_state.proofs.open_session.take_out.Goals as goal

none : (c : goal.After-from_residual) → position (is_session c.args.sid.now) c.args.sessions.now.items ≡ None
none c = ap (position (is_session c.args.sid.now)) (sym c.deref.ensures.value) ∙ sym c.place.ensures ∙ c.in_err-at.was

pub returns-in_err-at-clause-grants : goal.returns-in_err-at-clause-grants
returns-in_err-at-clause-grants c = rw c.from_residual.ensures (not_there c.args.sessions.now.items c.args.sid.now (none c))

pub returns-in_err-at-clause-items : goal.returns-in_err-at-clause-items
returns-in_err-at-clause-items c = sym (nowhere (is_session c.args.sid.now) c.args.sessions.now.items (none c))

taken : (c : goal.After-drop-remove) → (c.remove.result.grants ≡ own_in c.args.sessions.now.items c.args.sid.now)
    × (remove c.args.sessions.now.items c.in_ok-at.at ≡ filter (λ (other : SessionView). not (is_session c.args.sid.now other)) c.args.sessions.now.items)
taken c =
    let sessions = c.args.sessions.now.items in
    let test = is_session c.args.sid.now in
    let some : position test sessions ≡ Some c.in_ok-at.at = ap (position test) (sym c.deref.ensures.value) ∙ sym c.place.ensures ∙ c.in_ok-at.was in
    let found = position-Some test sessions c.in_ok-at.at c.remove.result some in
    let there = taken_at sessions c.args.sid.now c.in_ok-at.at c.remove.result found.0 found.1 found.2 c.requires in
    (ap (λ (session : SessionView). session.grants) c.remove.ensures.value ∙ there.0, there.1)

pub returns-clause-grants : goal.returns-clause-grants
returns-clause-grants c = ap (λ (session : SessionView). session.grants) c.result.view_is ∙ (taken c).0

pub returns-clause-items : goal.returns-clause-items
returns-clause-items c = c.remove.ensures.items ∙ (taken c).1
