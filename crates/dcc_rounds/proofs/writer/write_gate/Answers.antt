use Rattle.std.proofs.Common.{◌∙◌, subst, rules, arith}
use Rattle.dcc_lane.specs.Ends.{taken_of}
use Rattle.dcc_rounds.specs.Writing.{TakesRest}
use Rattle.dcc_rounds.proofs.writer.write_gate.Goals as goal

pub drop_rest-requires : goal.drop_rest-requires
drop_rest-requires g c =
    let few = c.write_side-end.ensures.written.4.few in
    let counted = c.write_side-end.ensures.written.4.counted in
    let same = c.write_side-end.ensures.same.1 in
    omega arith

pub returns-clause-written : goal.returns-clause-written
returns-clause-written g c =
    let same = c.write_side-end.ensures.same in (
      taken_of c.write_side-end.new.from,
      (c.drop_rest.ensures.same.0 ∙ same.0, c.drop_rest.ensures.same.1 ∙ same.1),
      search rules,
      subst (λ n. TakesRest c.write_side-end.result.ended n (taken_of c.write_side-end.new.from) (taken_of c.drop_rest.new.from)) same.1 c.drop_rest.ensures.taken,
    )
