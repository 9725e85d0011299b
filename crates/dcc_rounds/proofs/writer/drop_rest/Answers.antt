use Rattle.std.proofs.Common.{rules, arith, ◌≤◌}
use Rattle.dcc_connect.specs.declared.writing.Item.TheVariants.{Octets, End}
use Rattle.dcc_lane.specs.Ends.{taken_of}
use Rattle.dcc_rounds.specs.Writing.{TakesRest}
use Rattle.dcc_rounds.proofs.Resting.{rest_on}
use Rattle.dcc_rounds.proofs.writer.drop_rest.Goals as goal
use Rattle.dcc_rounds.proofs.writer.drop_rest.Goals.{in-End, in-Octets}

pub loop-preserved-after-take : goal.loop-preserved-after-take
loop-preserved-after-take g c =
    let fewer = c.if-ended-senders.false in
    let on : (c.match-take.ended ≤ c.senders-senders.result) × TakesRest c.args.ended c.match-take.ended (taken_of c.args.from.now) (taken_of c.take.new.self) = elim c.match-take.branch [
      | in-End w ↦ (let is = w.ended-is in (omega arith, rest_on c.args.ended c.loop.ended c.match-take.ended (taken_of c.args.from.now) c.loop.from c.take.new.self End c.loop.invariant.rest w.in-End.ensures.taken (omega arith)))
      | in-Octets w ↦ (let is = w.ended-is in (omega arith, rest_on c.args.ended c.loop.ended c.match-take.ended (taken_of c.args.from.now) c.loop.from c.take.new.self (Octets w.in-Octets.field-0) c.loop.invariant.rest w.in-Octets.ensures.taken (omega arith)))
    ] in
    record { same = search rules; few = on.0; all = c.loop.invariant.all; rest = on.1 }

pub loop-preserved : goal.loop-preserved
loop-preserved g c =
    let fewer = c.if-ended-senders.false in
    let on : (c.match-take.ended ≤ c.senders-senders.result) × TakesRest c.args.ended c.match-take.ended (taken_of c.args.from.now) (taken_of c.take.new.self) = elim c.match-take.branch [
      | in-End w ↦ (let is = w.ended-is in (omega arith, rest_on c.args.ended c.loop.ended c.match-take.ended (taken_of c.args.from.now) c.loop.from c.take.new.self End c.loop.invariant.rest w.in-End.ensures.taken (omega arith)))
      | in-Octets w ↦ (let is = w.ended-is in (omega arith, rest_on c.args.ended c.loop.ended c.match-take.ended (taken_of c.args.from.now) c.loop.from c.take.new.self (Octets w.in-Octets.field-0) c.loop.invariant.rest w.in-Octets.ensures.taken (omega arith)))
    ] in
    record { same = search rules; few = on.0; all = c.loop.invariant.all; rest = on.1 }
