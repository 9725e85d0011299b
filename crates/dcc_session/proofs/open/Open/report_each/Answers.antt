use Rattle.std.proofs.Common.{take_all, ◌≡◌, ℕ, ◌+◌, pos, ◌-ℤ◌, ap, sym, ◌∙◌, arith, List, take, Option, unwrap_or}
use Rattle.std.specs.List.{fold}
use Rattle.std.proofs.lemmas.Int.{ints}
use Rattle.std.proofs.lemmas.List.Sums.{sum_by_more, sum_by_more_le, fold_more}
use Rattle.dcc_escrow.specs.Pools.{PoolView}
use Rattle.dcc_act.specs.Services.{service_key}
use Rattle.dcc_act.specs.declared.grant.Grant.{Grant}
use Rattle.dcc_session.specs.declared.held.Held.{Held}
use Rattle.dcc_session.specs.Sessions.{OpenView}
use Rattle.dcc_session.specs.Grants.{live_in, charge_by, cost_in, charges_in, overrun_by, overrun_in, prices, left_by, left_of}
use Rattle.dcc_session.proofs.Reporting.{overrun_less, committed_more, live_later, cost_later, left_is, given_and_left}
use Rattle.dcc_session.proofs.Covering.{pool_is}
use Rattle.dcc_session.proofs.open.Open.report_each.Goals as goal

all_taken : (c : goal.After-loop-service) → take c.loop-service.service-index c.args.services.now ≡ c.args.services.now
all_taken c = take_all c.loop-service.service-index c.args.services.now c.loop-service-test.false

at_first : (c : goal.After-report-arg-in-loop-service-1) → cost_in c.loop-service.self.grants c.service-item.result ≡ cost_in c.args.self.now.grants c.service-item.result
at_first c =
    ap (λ (s : OpenView). cost_in s.grants c.service-item.result) c.loop-service.invariant.session
    ∙ cost_later c.args.self.now.grants c.args.services.now c.loop-service.service-index c.service-item.result c.requires.apart c.loop-service-test.true c.service-item.is

pub report-charged-requires-clause-floor : goal.report-charged-requires-clause-floor
report-charged-requires-clause-floor c =
    let own = c.args.self.now.grants in
    let cost = at_first c in
    let here = ap (cost_in own) c.service-item.is in
    let most = sum_by_more_le (cost_in own) c.args.services.now c.loop-service.service-index c.service-item.result c.loop-service-test.true in
    let floor = c.requires.floor in
    let before = c.loop-service.invariant.committed in
    omega (arith, ints)

pub loop-service-preserved : goal.loop-service-preserved
loop-service-preserved c =
    let own = c.args.self.now.grants in
    let i = c.loop-service.service-index in
    let service = c.service-item.result in
    let first = live_later own c.args.services.now i service c.requires.apart c.loop-service-test.true c.service-item.is in
    let held = ap (λ (s : OpenView). live_in s.grants (service_key service)) c.loop-service.invariant.session ∙ first in
    let cost = ap (λ (live : Option Grant). unwrap_or (charge_by live service) 0) held in
    let over = ap (λ (live : Option Grant). overrun_by live service) held in
    let here = ap (cost_in own) c.service-item.is in
    let here_over = ap (overrun_in own) c.service-item.is in
    let more = sum_by_more (cost_in own) c.args.services.now i service c.loop-service-test.true in
    let more_over = sum_by_more (overrun_in own) c.args.services.now i service c.loop-service-test.true in
    let left = fold_more left_by own c.args.services.now i service c.loop-service-test.true in
    let now = c.report-charged.ensures in
    let before = c.loop-service.invariant in
    let committed = ap (λ (p : PoolView). p.committed) now.pool in
    let reserved = ap (λ (p : PoolView). p.reserved) now.pool in
    let enough = c.requires.held.reserved in
    let held_then = now.held in
    let charged : c.unwrap_or-total.result ≡ cost_in c.loop-service.self.grants service
    = c.unwrap_or-total.ensures ∙ ap (λ (charge : Option ℕ). unwrap_or charge 0) now.charge in
    let less = overrun_less c.loop-service.self.grants service in
    let with_grants : List Held → OpenView = λ grants. record { pool = c.args.self.now.pool; deadline = c.args.self.now.deadline; grants = grants } in
    record {
      session = now.session ∙ ap (λ (s : OpenView). record s { grants = left_by s.grants service }) before.session
          ∙ ap with_grants (ap (left_by (fold left_by own (take i c.args.services.now))) c.service-item.is ∙ sym left);
      id = ap (λ (p : PoolView). p.id) now.pool ∙ before.id;
      committed = committed_more c.args.pool.now.committed c.loop-service.pool.committed c.report-charged.new.pool.committed _ _ _ before.committed committed _ cost (more ∙ ap (λ (n : ℕ). charges_in own (take i c.args.services.now) + n) (sym here));
      reserved = omega arith;
      total = omega arith;
      overrun = omega arith;
      overrun_bound = omega arith;
    }

pub returns-clause-session : goal.returns-clause-session
returns-clause-session c =
    let own = c.args.self.now.grants in
    let with_grants : List Held → OpenView = λ grants. record { pool = c.args.self.now.pool; deadline = c.args.self.now.deadline; grants = grants } in
    c.loop-service.invariant.session ∙ ap with_grants (ap (fold left_by own) (all_taken c) ∙ left_is c.args.services.now own)

pub returns-clause-pool : goal.returns-clause-pool
returns-clause-pool c =
    let own = c.args.self.now.grants in
    let left : prices c.loop-service.self.grants ≡ prices (left_of own c.args.services.now)
    = ap (λ (s : OpenView). prices s.grants) c.loop-service.invariant.session ∙ ap prices (ap (fold left_by own) (all_taken c) ∙ left_is c.args.services.now own) in
    let parts = given_and_left own c.args.services.now in
    let held = c.requires.held.reserved in
    let charged = ap (charges_in own) (all_taken c) in
    let before = c.loop-service.invariant in
    pool_is c.loop-service.pool _ _ _ before.id (before.committed ∙ ap (λ (n : ℕ). c.args.pool.now.committed -ℤ pos n) charged) (omega arith)

pub returns-clause-held : goal.returns-clause-held
returns-clause-held c =
    let own = c.args.self.now.grants in
    let left : prices c.loop-service.self.grants ≡ prices (left_of own c.args.services.now)
    = ap (λ (s : OpenView). prices s.grants) c.loop-service.invariant.session ∙ ap prices (ap (fold left_by own) (all_taken c) ∙ left_is c.args.services.now own) in
    let parts = given_and_left own c.args.services.now in
    omega arith
