use Rattle.std.proofs.Common.{◌≡◌, ◌++◌, ◌*◌, drop, vec_len}
use Rattle.std.specs.List.{flat_map}
use Rattle.dcc_avp.specs.Spelling.{padded}
use Rattle.dcc_credit.specs.Answers.{single_validity}
use Rattle.dcc_answer.specs.Sizes.{Grows}
use Rattle.dcc_credit.proofs.services.put_validities.Given as goal

abbrev pub invariant-loop-service : goal.invariant-loop-service
invariant-loop-service l = record {
  written : l.out.items ++ flat_map padded (flat_map (λ service. single_validity l.request l.terms service.form service) (drop l.service-index l.service-items)) ≡ l.fn.out.items ++ flat_map padded (flat_map (λ service. single_validity l.request l.terms service.form service) l.service-items);
  grows : Grows (vec_len l.fn.out) (vec_len l.out) (15 * l.service-index);
}
