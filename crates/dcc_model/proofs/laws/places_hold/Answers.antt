use Rattle.dcc_model.proofs.Places.{new_is_last, place_holds, unknown_has_no_place, idle_expiry_has_no_place}
use Rattle.dcc_model.proofs.laws.places_hold.Goals as goal

pub returns : goal.returns
returns c = record { last = new_is_last; stands = place_holds; unknown = unknown_has_no_place; idle = idle_expiry_has_no_place }
