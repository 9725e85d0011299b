use Rattle.std.proofs.Common.{◌≡◌, true, sym, subst}
use Rattle.dcc_running.specs.inner.Touches.{is_touched}
use Rattle.dcc_running.specs.inner.Wards.{WardView}
use Rattle.dcc_running.proofs.Growth.{still_begun, still_settled, still_told}
use Rattle.dcc_running.proofs.ward.Ward.top_up.Goals as goal

pub invariant_of-self : goal.invariant_of-self
invariant_of-self g c =
    let grows = c.acts_grow.ensures.steps c.top_up.new.self.shard _ _ _ c.top_up.ensures.step in (
      still_begun g.J.Naming.opening c.self.inside.place c.self.inside.shard c.top_up.new.self c.self.invariant.0 grows,
      still_told c.acts_grow.ensures.stay g.J.Naming.opening c.self.inside.shard c.top_up.new.self c.self.inside.told.receipts c.self.invariant.1 grows,
      still_settled c.acts_grow.ensures.same g.J.Naming.opening c.self.inside.place c.self.inside.shard c.top_up.new.self c.self.inside.touches c.self.inside.told.receipts
          _ _ _ c.self.invariant.2 c.top_up.ensures.step
          (subst (λ (p : WardView g.row.R.Denot). is_touched p.touches c.args.sub ≡ true) (sym c.self.view_is) c.requires.touched),
    )
