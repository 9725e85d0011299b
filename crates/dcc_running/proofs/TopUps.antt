-- Whether a top-up was made tells whether its amount may be.
use Rattle.std.proofs.Common.{◌≡◌, Bool, true, false, if◌then◌else◌, Some, None, refl, arith}
use Rattle.std.proofs.lemmas.Grind.{common_steps}
use Rattle.dcc_act.specs.TopUps.{TopUpView}

pub none_made : (b : Bool) (t : TopUpView) → None ≡ (if b then Some t else None) → b ≡ false
none_made true t e = grind (arith, common_steps)
none_made false t e = refl

pub some_made : (b : Bool) (t made : TopUpView) → Some made ≡ (if b then Some t else None) → b ≡ true
some_made true t made e = refl
some_made false t made e = grind (arith, common_steps)
