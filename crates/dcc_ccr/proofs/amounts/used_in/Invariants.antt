use Rattle.std.proofs.Common.{◌≡◌, drop, None}
use Rattle.std.specs.Prelude.{filter}
use Rattle.dcc_avp.specs.Spelling.{has_code}
use Rattle.dcc_avp.specs.declared.codes.TheConstants.{USED_SERVICE_UNIT}
use Rattle.dcc_ccr.specs.Amounts.{counted}
use Rattle.dcc_ccr.proofs.amounts.used_in.Given as goal

abbrev pub invariant-loop-avp : goal.invariant-loop-avp
invariant-loop-avp l =
    counted l.used (filter (has_code USED_SERVICE_UNIT) (drop l.avp-index l.avps)) ≡ counted None (filter (has_code USED_SERVICE_UNIT) l.avps)
