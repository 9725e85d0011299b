use Rattle.std.proofs.Common.{ℕ, ◌<◌, ◌^◌, arith}
use Rattle.std.proofs.lemmas.List.Elements.{All-from_get_or}
use Rattle.dcc_act_codec.proofs.kept.ids_fit.Goals as goal

pub returns : goal.returns
returns c = All-from_get_or (λ (id : ℕ). id < 2 ^ 32) c.args.ids.now 0 (λ i lt. omega (arith, c.type_inv.ids i))
