-- The AVPs that an answer reports as wrong (RFC 6733, section 7.5).
use Rattle.std.specs.Prelude.{List, [], ◌∷◌}
use Rattle.dcc_avp.specs.Spelling.{AvpView}
use Rattle.dcc_avp.specs.declared.codes.TheConstants.{FAILED_AVP}
use Rattle.dcc_answer.specs.Avps.{grouped}

-- all of them in one Failed-AVP; without any there is no Failed-AVP
abbrev pub failed_avps : List AvpView → List AvpView
failed_avps [] = []
failed_avps (first ∷ others) = grouped FAILED_AVP (first ∷ others) ∷ []
