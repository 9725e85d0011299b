use Rattle.std.proofs.Common.{◌≡◌, ℕ, ap, sym, ◌∙◌, List, map, ◌∷◌}
use Rattle.std.specs.List.{insert}
use Rattle.dcc_escrow.specs.Pools.{HoldView}
use Rattle.dcc_session.specs.declared.held.Held.{Held}
use Rattle.dcc_session.specs.Sessions.{OpenView}
use Rattle.dcc_session.specs.Grants.{live_in}
use Rattle.dcc_session.specs.inner.Holds.{hold_of}
use Rattle.dcc_session.proofs.Taking.{apart_with}
use Rattle.dcc_session.proofs.Covering.{insert_first}
use Rattle.dcc_session.proofs.open.Open.grant.Goals as goal

pub invariant_of-self-2 : goal.invariant_of-self-2
invariant_of-self-2 c =
    let before = c.self.inside in
    let grants : c.insert.new.self.items ≡ c.args.held ∷ before.grants.items
    = rw c.unwrap.ensures at c.insert.ensures.items ∙ ap (λ (xs : List Held). insert xs 0 c.args.held) c.reserve.ensures.items ∙ insert_first before.grants.items c.args.held in
    let holds : c.insert-2.new.self.items ≡ c.park.result ∷ before.holds.items
    = rw c.unwrap-2.ensures at c.insert-2.ensures.items ∙ ap (λ (xs : List HoldView). insert xs 0 c.park.result) c.reserve-else-is_err.ensures.items ∙ insert_first before.holds.items c.park.result in
    let pool : c.args.pool.now.id ≡ before.pool = sym (ap (λ (s : OpenView). s.pool) c.self.view_is ∙ c.requires.pool) in
    let with_pool : ℕ → HoldView = λ p. record { pool = p; amount = c.price_held.result } in
    let with_amount : ℕ → HoldView = λ n. record { pool = before.pool; amount = n } in
    let hold : c.park.result ≡ hold_of before.pool c.args.held
    = c.park.ensures ∙ c.in-Ok.ensures.hold ∙ ap with_pool pool ∙ ap with_amount c.price_held.ensures.value in
    let none = ap (λ (s : OpenView). live_in s.grants c.args.held.key) c.self.view_is ∙ c.requires.free in
    record {
      held = holds ∙ ap (λ (h : HoldView). h ∷ before.holds.items) hold ∙ ap (λ (hs : List HoldView). hold_of before.pool c.args.held ∷ hs) c.self.invariant.held
          ∙ ap (map (hold_of before.pool)) (sym grants);
      apart = rw grants (apart_with before.grants.items c.args.held none c.self.invariant.apart);
    }
