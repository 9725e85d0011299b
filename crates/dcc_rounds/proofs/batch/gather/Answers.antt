use Rattle.std.proofs.Common.{◌∙◌, [], ◌∷◌, Some, refl, arith}
use Rattle.dcc_rounds.specs.Working.{works_in}
use Rattle.dcc_rounds.proofs.Batching.{gathered_on}
use Rattle.dcc_rounds.proofs.Doings.{taken_one}
use Rattle.dcc_rounds.proofs.batch.gather.Goals as goal

pub returns-in-Some-add-clause-taken : goal.returns-in-Some-add-clause-taken
returns-in-Some-add-clause-taken g c =
    let was = c.loop-from in
    gathered_on c.args.from.now was.from c.more.new.from c.args.batch.now.items was.batch.items c.add.new.batch.items c.in-Some.work (works_in (Some c.in-Some-add.other ∷ []))
    was.invariant.gathered (taken_one was.from c.more.new.from c.in-Some.work c.in-Some.work c.in-Some.ensures.taken refl) c.in-Some-add.ensures.added

pub loop-from-preserved : goal.loop-from-preserved
loop-from-preserved g c =
    let was = c.loop-from in
    record {
      gathered = gathered_on c.args.from.now was.from c.more.new.from c.args.batch.now.items was.batch.items c.add.new.batch.items c.in-Some.work []
          was.invariant.gathered (taken_one was.from c.more.new.from c.in-Some.work c.in-Some.work c.in-Some.ensures.taken refl) c.in_default-add.ensures.added;
      one = c.add.ensures.batch;
      same = (c.more.ensures.same.0 ∙ was.invariant.same.0, c.more.ensures.same.1 ∙ was.invariant.same.1);
      room = omega (arith, was.invariant.room, c.add.ensures.capacity);
    }
