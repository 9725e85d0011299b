use Rattle.std.proofs.Common.{◌≡◌, ap, sym, ◌∙◌, arith, Option, Some, unwrap_or}
use Rattle.dcc_escrow.specs.Pools.{HoldView}
use Rattle.dcc_act.specs.declared.grant.Grant.{Grant}
use Rattle.dcc_session.specs.Sessions.{OpenView}
use Rattle.dcc_session.specs.Grants.{live_in, live_price_in, charge_by, prices}
use Rattle.dcc_session.specs.inner.Holds.{hold_of}
use Rattle.dcc_session.proofs.Taking.{apart_without, price-le, price-without}
use Rattle.dcc_session.proofs.open.Open.give_back.Goals as goal

pub settle-requires-clause-hold : goal.settle-requires-clause-hold
settle-requires-clause-hold c = λ x is.
    let pool : c.self.inside.pool ≡ c.args.pool.now.id = ap (λ (s : OpenView). s.pool) c.self.view_is ∙ c.requires.held.id in
    let grants = ap (λ (s : OpenView). prices s.grants) c.self.view_is in
    let hold : x.1 ≡ hold_of c.self.inside.pool x.0 = rw is at (c.take_out-taken.ensures.hold c.self.inside.pool c.self.invariant.held) in
    let found : Some x.0.grant ≡ live_in c.self.inside.grants.items c.key.result = rw is at c.take_out-taken.ensures.taken in
    let cost = price-le c.self.inside.grants.items c.key.result x.0.grant (sym found) in
    let amount = ap (λ (h : HoldView). h.amount) hold in
    record {
      id = ap (λ (h : HoldView). h.pool) hold ∙ pool;
      reserved = omega (arith, c.requires.held.reserved);
    }

pub settle-requires-clause-floor : goal.settle-requires-clause-floor
settle-requires-clause-floor c =
    let taken = c.take_out-taken.ensures.taken ∙ ap (λ (s : OpenView). live_in s.grants c.key.result) c.self.view_is ∙ ap (live_in c.args.self.now.grants) c.key.ensures in
    let cost = ap (λ (live : Option Grant). unwrap_or (charge_by live c.args.service.now) 0) taken in
    rw cost c.requires.floor

pub invariant_of-self : goal.invariant_of-self
invariant_of-self c = record {
  held = c.take_out-taken.ensures.holds c.self.inside.pool c.self.invariant.held;
  apart = rw c.take_out-taken.ensures.grants (apart_without c.self.inside.grants.items c.key.result c.self.invariant.apart);
}

pub returns-clause-held : goal.returns-clause-held
returns-clause-held c =
    let all = price-without c.self.inside.grants.items c.key.result c.self.invariant.apart in
    let left = ap prices c.take_out-taken.ensures.grants in
    let before = ap (λ (s : OpenView). prices s.grants) c.self.view_is in
    let had = ap (λ (s : OpenView). live_price_in s.grants c.key.result) c.self.view_is in
    let own = ap (live_price_in c.args.self.now.grants) c.key.ensures in
    omega arith
