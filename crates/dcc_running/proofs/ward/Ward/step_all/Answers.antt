use Rattle.std.proofs.Common.{◌≡◌, true, sym, subst}
use Rattle.dcc_shard.specs.Batches.{AreReplies}
use Rattle.dcc_running.specs.inner.Touches.{is_touched}
use Rattle.dcc_running.specs.inner.Wards.{WardView}
use Rattle.dcc_running.proofs.Growth.{batch_settled, still_begun, still_told}
use Rattle.dcc_running.proofs.ward.Ward.step_all.Goals as goal

pub invariant_of-self : goal.invariant_of-self
invariant_of-self g c =
    let grows = c.acts_grow.ensures.batches c.step_all.new.self.shard _ _ c.step_all.ensures.batch in (
      still_begun g.J.Naming.opening c.self.inside.place c.self.inside.shard c.step_all.new.self c.self.invariant.0 grows,
      still_told c.acts_grow.ensures.stay g.J.Naming.opening c.self.inside.shard c.step_all.new.self c.self.inside.told.receipts c.self.invariant.1 grows,
      batch_settled c.acts_grow.ensures.others g.J.Naming.opening c.self.inside.place c.self.inside.shard c.step_all.new.self c.self.inside.touches c.self.inside.told.receipts
          _ _ c.self.invariant.2 c.step_all.ensures.batch
          (λ sub among. subst (λ (p : WardView g.row.R.Denot). is_touched p.touches sub ≡ true) (sym c.self.view_is) (c.requires.touched sub among)),
    )

pub returns-clause-replies : goal.returns-clause-replies
returns-clause-replies g c =
    subst (λ (p : WardView g.row.R.Denot). AreReplies p.shard c.args.calls.items c.step_all.new.replies.items) c.self.view_is c.step_all.ensures.replies
