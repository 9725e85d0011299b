use Rattle.std.proofs.Common.{◌≡◌, length}
use Rattle.dcc_tariff.specs.declared.place.TheConstants.{PLACES}
use Rattle.dcc_tariff.proofs.place.places_of.Given as goal

abbrev pub invariant-loop-i : goal.invariant-loop-i
invariant-loop-i l = length l.places.items ≡ PLACES
