use Rattle.std.proofs.Common.{◌≡◌, ℕ, ◌-◌, pos, ◌-ℤ◌, ap, sym, ◌∙◌, arith, Option, Some, option_map, unwrap_or}
use Rattle.std.specs.Option.{option_map_or}
use Rattle.dcc_escrow.specs.Pools.{PoolView, HoldView}
use Rattle.dcc_session.specs.declared.held.Held.{Held}
use Rattle.dcc_session.specs.Grants.{price_of_grant, held_price, charge_at, charge_by, overrun_by}
use Rattle.dcc_session.proofs.charging.settle.Goals as goal

amount : (c : goal.After-settle-settled) → c.unpark-hold.result.amount ≡ held_price c.in-Some.held
amount c = ap (λ (h : HoldView). h.amount) c.unpark-hold.ensures ∙ c.requires.amount (c.in-Some.held, c.in-Some.parked) c.in-Some.is

cost : (c : goal.After-settle-settled) → c.unwrap_or.result ≡ unwrap_or (charge_by (Some c.in-Some.held.grant) c.args.service.now) 0
cost c = c.unwrap_or.ensures ∙ ap (λ (charge : Option ℕ). unwrap_or charge 0) (c.charge_at-charge.ensures.value ∙ ap (λ (held : Held). charge_at (Some held.grant.tariff) c.args.service.now) c.held.view_is)

pub returns-in-Some-clause-overrun : goal.returns-in-Some-clause-overrun
returns-in-Some-clause-overrun c =
    let held = amount c in
    let charged = cost c in
    let over : c.settle-settled.result.overrun ≡ overrun_by (Some c.in-Some.held.grant) c.args.service.now = omega arith in
    over ∙ ap (λ (taken : Option (Held × HoldView)). overrun_by (option_map (λ t. t.0.grant) taken) c.args.service.now) (sym c.in-Some.is)

pub returns-in-Some-clause-pool : goal.returns-in-Some-clause-pool
returns-in-Some-clause-pool c =
    let before = c.args.pool.now in
    let with_cost : ℕ → PoolView = λ n. record { id = before.id; committed = before.committed -ℤ pos n; reserved = before.reserved - c.unpark-hold.result.amount } in
    let with_amount : ℕ → PoolView
    = λ n. record { id = before.id; committed = before.committed -ℤ pos (unwrap_or (charge_by (Some c.in-Some.held.grant) c.args.service.now) 0); reserved = before.reserved - n } in
    let with_taken : Option (Held × HoldView) → PoolView = λ taken. record {
      id = before.id;
      committed = before.committed -ℤ pos (unwrap_or (charge_by (option_map (λ t. t.0.grant) taken) c.args.service.now) 0);
      reserved = before.reserved - option_map_or price_of_grant (option_map (λ t. t.0.grant) taken) 0;
    } in
    c.settle-settled.ensures.pool ∙ ap with_cost (cost c) ∙ ap with_amount (amount c) ∙ ap with_taken (sym c.in-Some.is)
