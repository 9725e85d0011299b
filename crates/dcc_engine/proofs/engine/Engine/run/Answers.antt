use Rattle.std.proofs.Common.{◌≡◌, ◌∷◌, ◌+◌, length, take, reverse, subst, ap, ◌∙◌, arith, List, ℕ, None}
use Rattle.std.proofs.lemmas.List.{take_all, length_push, get_or-set_other, length-set}
use Rattle.dcc_engine.specs.declared.event.Event.{Event}
use Rattle.dcc_engine.specs.declared.event.Out.{Out}
use Rattle.dcc_engine.specs.Asks.{Turn}
use Rattle.dcc_engine.specs.Isolation.{turns}
use Rattle.std.specs.List.Sorted.{IsStrictlySortedBy}
use Rattle.dcc_shard.specs.Routes.{route_order}
use Rattle.dcc_engine.proofs.Refusing.{all_more}
use Rattle.dcc_engine.proofs.Moves.{AreStable}
use Rattle.dcc_engine.proofs.Pasts.{IsPast}
use Rattle.dcc_engine.proofs.Runs.{past_push, turn_next, turn_stands, run_from_past}
use Rattle.dcc_engine.proofs.engine.Engine.run.Goals as goal

pub returns-clause-answers : goal.returns-clause-answers
returns-clause-answers g c =
    let whole : take c.loop-i.i c.args.events.now ≡ c.args.events.now = take_all c.loop-i.i c.args.events.now c.loop-i-test.false in
    run_from_past c.later_acts_change_no_outcome.ensures c.acts_come_to_their_own.ensures.last c.args.self.now (turns c.args.events.now c.loop-i.outs.items)
    (subst (λ (es : List Event). IsPast c.args.self.now (reverse (turns es c.loop-i.outs.items))) whole c.loop-i.invariant.answers)

pub loop-i-preserved : goal.loop-i-preserved
loop-i-preserved g c =
    let e = c.leaving_out_changes_nothing.ensures in
    let stable : AreStable =
    record { after_stays = e.after; new_stays = e.is_new; place_stays = e.place; acts_stay = e.acts; whole = e.whole; openers_stay = e.openers; one_opens = c.one_more_act_opens.ensures; same_are_equal = c.same_subscribers_are_equal.ensures } in
    let i = c.loop-i.i in
    let start = c.args.self.now in
    let now = c.loop-i.self in
    let past = reverse (turns (take i c.args.events.now) c.loop-i.outs.items) in
    let event = c.index-events-i.result in
    let out = c.step-out.result in
    let turn : Turn = record { event = event; out = out } in
    let h = c.loop-i.invariant in
    let more : reverse (turns (take (i + 1) c.args.events.now) c.push_reserved.new.self.items) ≡ turn ∷ past =
    ap (λ (os : List Out). reverse (turns (take (i + 1) c.args.events.now) os)) c.push_reserved.ensures.items
    ∙ past_push c.args.events.now c.loop-i.outs.items i event out c.loop-i-test.true c.index-events-i.is h.count in
    record {
      count = ap length c.push_reserved.ensures.items ∙ length_push c.loop-i.outs.items out ∙ ap (λ (n : ℕ). n + 1) h.count;
      answers = rw more (turn_next stable start now c.step-out.new.self past turn h.stands c.step-out.ensures.done, h.answers);
      stands = rw more (turn_stands stable start now c.step-out.new.self past turn h.stands c.step-out.ensures.done);
      room = omega arith;
      outs = omega arith;
      shards = c.step-out.ensures.shards ∙ h.shards;
      order = rw c.push_reserved.ensures.items (all_more (λ o. IsStrictlySortedBy (route_order start.shards) o.refused) c.loop-i.outs.items out h.order (rw (← h.shards) c.step-out.ensures.order));
      hosts_count = length-set c.loop-i.hosts.items i c.take-host.new.self ∙ h.hosts_count;
      hosts = λ k le. get_or-set_other c.loop-i.hosts.items i k c.take-host.new.self None (λ at. absurd (omega arith)) ∙ h.hosts k (omega arith);
    }
