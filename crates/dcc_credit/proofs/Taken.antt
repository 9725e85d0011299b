-- The session of a refusal is short.
use Rattle.std.proofs.Common.{◌≡◌, true, List, arith}
use Rattle.std.specs.Option.{ForSome}
use Rattle.dcc_octets.specs.Names.{is_short}
use Rattle.dcc_avp.specs.Spelling.{AvpView}
use Rattle.dcc_request.specs.Sessions.{session_of}
use Rattle.dcc_credit.specs.Refusals.{nothing, taken_from}

pub taken_short : (avps : List AvpView) → ForSome (taken_from avps).session (λ octets. is_short octets ≡ true)
unfolding taken_from session_of
taken_short avps = grind arith

pub none_short : ForSome nothing.session (λ octets. is_short octets ≡ true)
none_short = grind arith
