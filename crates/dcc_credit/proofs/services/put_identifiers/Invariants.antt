use Rattle.std.proofs.Common.{◌≡◌, ◌++◌, ◌*◌, drop, map, vec_len}
use Rattle.std.specs.List.{flat_map}
use Rattle.dcc_avp.specs.Spelling.{padded}
use Rattle.dcc_avp.specs.declared.codes.TheConstants.{SERVICE_IDENTIFIER}
use Rattle.dcc_answer.specs.Avps.{sent32}
use Rattle.dcc_answer.specs.Sizes.{Grows}
use Rattle.dcc_credit.proofs.services.put_identifiers.Given as goal

abbrev pub invariant-loop-id : goal.invariant-loop-id
invariant-loop-id l = record {
  written : l.out.items ++ flat_map padded (map (sent32 SERVICE_IDENTIFIER) (drop l.id-index l.ids)) ≡ l.fn.out.items ++ flat_map padded (map (sent32 SERVICE_IDENTIFIER) l.ids);
  grows : Grows (vec_len l.fn.out) (vec_len l.out) (15 * l.id-index);
}
