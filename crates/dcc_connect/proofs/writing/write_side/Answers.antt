use Rattle.std.proofs.Common.{◌≡◌, ◌≤◌, ◌⊎◌, ◌∙◌, length, refl, sym, ap, subst, inl, inr, arith, rules}
use Rattle.dcc_lane.specs.Ends.{taken_of}
use Rattle.dcc_connect.specs.declared.writing.Progress.{Progress}
use Rattle.dcc_connect.specs.Writing.{TakesAndWrites}
use Rattle.dcc_connect.specs.inner.Gathers.{HasCome}
use Rattle.dcc_connect.proofs.Batches.{come_new, come_turn, come_spent, come_last, may_ended, may_room, gathers_room}
use Rattle.dcc_connect.proofs.writing.write_side.Goals as goal
use Rattle.dcc_connect.proofs.writing.write_side.Goals.{else-loop-turn-test, then-loop-turn-test+else-prove+then-progress-senders, then-loop-turn-test+else-prove+else-progress-senders+then-not-spend}

pub loop-turn-init : goal.loop-turn-init
loop-turn-init g c =
    let none : c.new-progress.result.ended ≡ 0 = ap (λ (p : Progress). p.ended) c.new-progress.ensures in
    let left = c.new-tally.ensures.left in
    let octets = ap length c.new-gathered.ensures.octets in
    record {
      same = (refl, refl);
      few = omega arith;
      turned = omega arith;
      room = omega arith;
      come = come_new _ _ _ _ _ _ c.new-gathered.result c.new-gathered.ensures.octets c.new-gathered.ensures.ends c.new-progress.ensures c.new-tally.ensures.left c.new-tally.ensures.written;
    }

pub loop-turn-preserved : goal.loop-turn-preserved
loop-turn-preserved g c =
    let spent = c.if-not-spend.ensures.left in
    let turned = c.loop-turn.invariant.turned in
    let fewer = c.if-progress-senders.false in
    let first = may_ended _ _ _ _ _ _ c.loop-turn.gathered c.leave_turns.new.gathered c.leave_turns.ensures.sent in
    let second = may_ended _ _ _ _ _ _ c.leave_turns.new.gathered c.take_next-item.new.gathered c.take_next-item.ensures.sent in
    let behind = c.leave_turns.ensures.turns in
    let room : length c.leave_turns.new.gathered.octets.items ≤ c.spend.new.self.left = omega arith in
    let fits = may_room _ _ _ _ _ _ c.leave_turns.new.gathered c.take_next-item.new.gathered room c.take_next-item.ensures.sent in
    let item = gathers_room c.take_next-item.result _ _ _ _ _ _ c.take_next-item.new.gathered c.gather.new.gathered fits c.gather.ensures in
    let first_left = first.1 in
    let first_ended = first.0 in
    let second_left = second.1 in
    let second_ended = second.0 in
    let last_left = item.2 in
    let last_ended = item.1 in
    record {
      same = search rules;
      few = omega arith;
      turned = omega arith;
      room = item.0;
      come = come_turn _ _ _ _ _ _ _ _ _ _ _ _ _ _ _ _ _ _ _ _ c.loop-turn.gathered c.leave_turns.new.gathered c.take_next-item.new.gathered c.gather.new.gathered c.loop-turn.invariant.come c.if-progress-senders.false c.leave_turns.ensures.sent spent c.if-not-spend.ensures.written
          c.take_next-item.ensures.sent (c.ring.ensures.taken ∙ c.take_next-item.ensures.taken.2) c.gather.ensures;
    }

pub returns-clause-written : goal.returns-clause-written
returns-clause-written g c =
    let St : Type 0 = HasCome c.loop-turn-test.progress.fault c.senders-senders.result c.args.turns (g.O.Write.contents c.args.output.now) (g.O.Write.contents c.loop-turn-test.output)
    (taken_of c.args.from.now) (taken_of c.loop-turn.from) c.loop-turn-test.progress (record { left = c.loop-turn-test.tally.left; written = c.loop-turn-test.tally.written })
    c.loop-turn-test.gathered.octets.items c.loop-turn-test.gathered.ends.items in
    let few = c.loop-turn.invariant.few in
    let turned = c.loop-turn.invariant.turned in
    let came : St × (c.loop-turn-test.progress.ended ≤ c.senders-senders.result) × ((c.senders-senders.result ≤ c.loop-turn-test.progress.ended) ⊎ (c.loop-turn-test.tally.left ≡ 0)) =
    elim c.loop-turn-test.branch [
      | else-loop-turn-test w ↦ (let out = w.loop-turn-test.false in rw (w.output-is, w.tally-is, w.progress-is, w.gathered-is) (c.loop-turn.invariant.come, few, inr (omega arith)))
      | then-loop-turn-test+else-prove+then-progress-senders w ↦ (rw (w.output-is, w.tally-is, w.progress-is, w.gathered-is) (c.loop-turn.invariant.come, few, inl w.if-progress-senders.true))
      | then-loop-turn-test+else-prove+else-progress-senders+then-not-spend w ↦ (
          let left = w.if-not-spend.ensures.left in
          let same = (may_ended _ _ _ _ _ _ c.loop-turn.gathered w.leave_turns.new.gathered w.leave_turns.ensures.sent).0 in
          rw (w.output-is, w.tally-is, w.progress-is, w.gathered-is) (
            come_spent _ _ _ _ _ _ _ _ _ _ _ _ c.loop-turn.gathered w.leave_turns.new.gathered c.loop-turn.invariant.come w.leave_turns.ensures.sent left.0 left.1 w.if-not-spend.ensures.written,
            omega arith,
            inr left.1,
          ))
    ] in
    subst (λ n. TakesAndWrites c.end.result n c.args.turns (g.O.Write.contents c.args.output.now) (g.O.Write.contents c.flush.new.output) (taken_of c.args.from.now) (taken_of c.loop-turn.from)) c.senders-senders.ensures
    (come_last c.senders-senders.result c.args.turns _ _ _ _ _ c.loop-turn-test.progress c.flush.new.progress _ _ _ _ c.end.result came.0 came.1 came.2 c.flush.ensures.sent c.end.ensures.fault c.end.ensures.answers c.end.ensures.ended)
