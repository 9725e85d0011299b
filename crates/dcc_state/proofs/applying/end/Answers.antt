use Rattle.std.proofs.Common.{ap, sym, ◌∙◌, arith}
use Rattle.dcc_escrow.specs.Pools.{PoolView}
use Rattle.dcc_session.specs.Sessions.{OpenView}
use Rattle.dcc_state.proofs.applying.end.Goals as goal

pub end-requires : goal.end-requires
end-requires c =
    let reported = c.report_all-charges.ensures in
    let given = ap (λ (p : PoolView). p.reserved) reported.pool in
    let held = reported.held in
    let all = c.resume-open.ensures.held in
    let before = c.requires.holds.reserved in
    record {
      id = ap (λ (s : OpenView). s.pool) reported.session ∙ c.resume-open.ensures.pool ∙ sym (ap (λ (p : PoolView). p.id) reported.pool ∙ c.requires.holds.id);
      reserved = omega arith;
    }

pub returns-clause-holds : goal.returns-clause-holds
returns-clause-holds c =
    let reported = c.report_all-charges.ensures in
    let given = ap (λ (p : PoolView). p.reserved) reported.pool in
    let ended = ap (λ (p : PoolView). p.reserved) c.end.ensures in
    let held = reported.held in
    let all = c.resume-open.ensures.held in
    let before = c.requires.holds.reserved in
    record { id = ap (λ (p : PoolView). p.id) c.end.ensures ∙ ap (λ (p : PoolView). p.id) reported.pool ∙ c.requires.holds.id; reserved = omega arith }
