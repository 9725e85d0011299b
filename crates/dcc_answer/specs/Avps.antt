-- AVPs that are sent.
use Rattle.std.specs.Prelude.{ℕ, List, None}
use Rattle.std.specs.Int.{w32, w64, to_be_bytes}
use Rattle.std.specs.List.{flat_map}
use Rattle.dcc_avp.specs.Spelling.{AvpView, padded}
use Rattle.dcc_avp.specs.declared.avp.flags.TheConstants.{MANDATORY}

-- an AVP that is sent has the flag M alone
abbrev pub sent : ℕ → List ℕ → AvpView
sent code value = record { code = code; flags = MANDATORY; vendor = None; value = value }

-- an AVP that is sent, of a number in four octets, and of a number in eight
abbrev pub sent32 : ℕ → ℕ → AvpView
sent32 code n = sent code (to_be_bytes w32 n)

abbrev pub sent64 : ℕ → ℕ → AvpView
sent64 code n = sent code (to_be_bytes w64 n)

-- an AVP that is sent, of other AVPs, each with its padding (RFC 6733, section 4.4)
abbrev pub grouped : ℕ → List AvpView → AvpView
grouped code avps = sent code (flat_map padded avps)
