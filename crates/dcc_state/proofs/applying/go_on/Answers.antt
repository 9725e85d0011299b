use Rattle.std.proofs.Common.{List, length, ap, sym, subst, ◌∙◌, arith}
use Rattle.dcc_escrow.specs.Pools.{PoolView, free}
use Rattle.dcc_session.specs.declared.held.Held.{Held}
use Rattle.dcc_session.specs.Sessions.{OpenView}
use Rattle.dcc_state.specs.Backed.{IsAffordable}
use Rattle.dcc_state.proofs.Turns.{are_free, fewer, covered_then, held_with}
use Rattle.dcc_state.proofs.applying.go_on.Goals as goal

pub grant_all-requires-clause-free : goal.grant_all-requires-clause-free
grant_all-requires-clause-free c =
    are_free c.resume-open.result.grants c.report_all-charges.new.self.grants c.args.turn.services c.args.turn.granted.grants
    (ap (λ (s : OpenView). s.grants) c.report_all-charges.ensures.session) c.requires.goes_on.named

pub grant_all-requires-clause-room : goal.grant_all-requires-clause-room
grant_all-requires-clause-room c =
    let left = fewer c.resume-open.result.grants c.report_all-charges.new.self.grants c.args.turn.services (ap (λ (s : OpenView). s.grants) c.report_all-charges.ensures.session) in
    let own = ap (λ (grants : List Held). length grants) c.resume-open.ensures.grants in
    let room = c.requires.goes_on.room in
    omega arith

pub grant_all-requires-clause-covered : goal.grant_all-requires-clause-covered
grant_all-requires-clause-covered c =
    let own = c.resume-open.result.grants in
    let services = c.args.turn.services in
    let made = c.args.turn.granted.grants in
    let held = c.report_all-charges.ensures.held in
    let all = c.resume-open.ensures.held in
    let before = c.requires.holds.reserved in
    let affordable = subst (λ (grants : List Held). IsAffordable (free c.args.pool.now) grants services made) (sym c.resume-open.ensures.grants) c.requires.goes_on.affordable in
    covered_then c.args.pool.now c.report_all-charges.new.pool own services made affordable (omega arith) c.report_all-charges.ensures.pool

pub returns-clause-holds : goal.returns-clause-holds
returns-clause-holds c =
    let reported = c.report_all-charges.ensures in
    let granted = c.grant_all.ensures in
    let given = ap (λ (p : PoolView). p.reserved) reported.pool in
    let taken = ap (λ (p : PoolView). p.reserved) granted.pool in
    let held = reported.held in
    let all = c.resume-open.ensures.held in
    let before = c.requires.holds.reserved in
    let grants = ap (λ (s : OpenView). s.grants) (c.park.ensures ∙ c.touch.ensures) ∙ ap (λ (s : OpenView). s.grants) granted.session in
    let sum = held_with c.resume-open.new.sessions.items c.push_reserved.new.self.items _ c.args.turn.granted.grants c.report_all-charges.new.self.grants c.push_reserved.ensures.items grants in
    record { id = ap (λ (p : PoolView). p.id) granted.pool ∙ ap (λ (p : PoolView). p.id) reported.pool ∙ c.requires.holds.id; reserved = omega arith }
