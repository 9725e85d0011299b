use Rattle.std.proofs.Common.{◌≡◌, ℕ, ap, sym, ◌∙◌, List, map, ◌++◌}
use Rattle.std.proofs.lemmas.List.{map-append}
use Rattle.dcc_escrow.specs.Pools.{HoldView}
use Rattle.dcc_session.specs.Sessions.{OpenView, GrantedView}
use Rattle.dcc_session.specs.inner.Holds.{hold_of}
use Rattle.dcc_session.proofs.Taking.{apart_append}
use Rattle.dcc_session.proofs.open.Open.grant_all.Goals as goal

pub invariant_of-self : goal.invariant_of-self
invariant_of-self c =
    let before = c.self.inside in
    let new = c.granted.inside in
    let grants : c.append.new.self.items ≡ new.grants.items ++ before.grants.items = rw c.unwrap.ensures at c.append.ensures.items in
    let holds = rw c.unwrap-2.ensures at c.append-2.ensures.items in
    let pool : c.args.pool.now.id ≡ before.pool = sym (ap (λ (s : OpenView). s.pool) c.self.view_is ∙ c.requires.pool) in
    let taken : c.take_all.new.holds.items ≡ map (hold_of before.pool) new.grants.items
    = c.take_all.ensures.holds ∙ ap (λ (hs : List HoldView). hs ++ map (hold_of c.args.pool.now.id) c.deref.result.now) c.granted.invariant.0
    ∙ ap (λ (p : ℕ). map (hold_of p) c.deref.result.now) pool ∙ ap (map (hold_of before.pool)) c.deref.ensures.value in
    let made = ap (λ (g : GrantedView). g.grants) c.granted.view_is in
    let own = ap (λ (s : OpenView). s.grants) c.self.view_is in
    record {
      held = holds ∙ ap (λ (hs : List HoldView). hs ++ before.holds.items) taken ∙ ap (λ (hs : List HoldView). map (hold_of before.pool) new.grants.items ++ hs) c.self.invariant.held
          ∙ sym (map-append (hold_of before.pool) new.grants.items before.grants.items) ∙ ap (map (hold_of before.pool)) (sym grants);
      apart = rw grants (apart_append new.grants.items before.grants.items (rw made c.requires.apart) (rw (made, own) c.requires.free) c.self.invariant.apart);
    }
