use Rattle.std.proofs.Common.{◌≡◌, ◌++◌, drop, take, vec_len}
use Rattle.std.specs.List.{flat_map, sum_by}
use Rattle.dcc_avp.specs.Spelling.{padded}
use Rattle.dcc_credit.specs.Answers.{service_avps}
use Rattle.dcc_answer.specs.Sizes.{Grows}
use Rattle.dcc_credit.proofs.ServiceSizes.{most_of}
use Rattle.dcc_credit.proofs.services.put_services.Given as goal

abbrev pub invariant-loop-service : goal.invariant-loop-service
invariant-loop-service l = record {
  written : l.out.items ++ flat_map padded (flat_map (λ service. service_avps l.request l.terms service.form service) (drop l.service-index l.service-items)) ≡ l.fn.out.items ++ flat_map padded (flat_map (λ service. service_avps l.request l.terms service.form service) l.service-items);
  grows : Grows (vec_len l.fn.out) (vec_len l.out) (sum_by most_of (take l.service-index l.service-items));
}
