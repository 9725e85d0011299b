use Rattle.std.proofs.Common.{◌≡◌, ◌-◌, drop}
use Rattle.dcc_tariff.proofs.VersionLemmas.{neighbours_agree}
use Rattle.dcc_tariff.proofs.version.agree.Given as goal

abbrev pub invariant-loop-i : goal.invariant-loop-i
invariant-loop-i l = neighbours_agree (drop (l.i - 1) l.versions) ≡ neighbours_agree l.versions
