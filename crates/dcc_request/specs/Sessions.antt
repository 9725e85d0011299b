-- The session that a request names.
use Rattle.std.specs.Prelude.{ℕ, if◌then◌else◌, List, Option, Some, None, option_and_then}
use Rattle.std.specs.List.{find}
use Rattle.dcc_octets.specs.Names.{is_short}
use Rattle.dcc_avp.specs.Spelling.{AvpView, has_code}
use Rattle.dcc_avp.specs.declared.codes.TheConstants.{SESSION_ID}

-- these octets are the name of a session, if they are 1 to 255
abbrev pub session_named : List ℕ → Option (List ℕ)
session_named octets = if is_short octets then Some octets else None

-- the data of the first Session-Id that is no vendor's, if they are the name of a session (RFC 6733, section 8.8)
unfoldable pub session_of : List AvpView → Option (List ℕ)
session_of avps = option_and_then (λ (avp : AvpView). session_named avp.value) (find (has_code SESSION_ID) avps)
