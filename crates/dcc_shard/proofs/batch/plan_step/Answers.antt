use Rattle.std.proofs.Common.{◌≡◌, Bool, true, ℕ, Option, sym, subst}
use Rattle.dcc_act.specs.declared.outcome.Outcome.{Outcome}
use Rattle.dcc_account.specs.Prepared.{StepView}
use Rattle.dcc_model.specs.Outcomes.{place, is_new}
use Rattle.dcc_shard.specs.Shards.{held_in}
use Rattle.dcc_shard.specs.inner.Pending.{step_of}
use Rattle.dcc_shard.specs.inner.Plans.{has_reply}
use Rattle.dcc_shard.proofs.Planning.{reply_there}
use Rattle.dcc_shard.proofs.batch.plan_step.Goals as goal

pub write_reply-requires : goal.write_reply-requires
write_reply-requires g c =
    let books = c.prepare.new.self.books in
    let before = held_in books.rows c.args.sub.now in
    let way = c.args.way.now in
    let is = c.in_ok-ready.ensures.pending in
    let step = step_of c.in_ok-ready.ready.pending in
    let laws = c.acts_come_to_their_own.ensures in
    let there = reply_there laws.top_ups laws.expiries c.places_hold.ensures.unknown books.terms before c.args.act way c.requires in
    let P1 : Outcome → Type 0 = λ o. has_reply o (place books.terms before c.args.act) (is_new books.terms before c.args.act) way ≡ true in
    let P2 : Option ℕ → Type 0 = λ k. has_reply step.outcome k (is_new books.terms before c.args.act) way ≡ true in
    let P3 : Bool → Type 0 = λ b. has_reply step.outcome step.place b way ≡ true in
    let at_step = subst P3 (sym is.new_is) (subst P2 (sym is.place_is) (subst P1 (sym is.outcome_is) there)) in
    let Q : StepView → Type 0 = λ s. has_reply s.outcome s.place s.is_new way ≡ true in
    subst Q (sym c.step.ensures) at_step
