use Rattle.std.proofs.Common.{◌≡◌, ◌++◌, length, take}
use Rattle.std.specs.Int.{w16, to_be_bytes}
use Rattle.std.specs.List.{flat_map}
use Rattle.dcc_act_codec.specs.Records.{u32_octets}
use Rattle.dcc_act_codec.proofs.writing.put_ids.Given as goal

abbrev pub invariant-loop-id : goal.invariant-loop-id
invariant-loop-id l = l.out.items ≡ l.fn.out.items ++ (to_be_bytes w16 (length l.ids) ++ flat_map u32_octets (take l.id-index l.ids))
