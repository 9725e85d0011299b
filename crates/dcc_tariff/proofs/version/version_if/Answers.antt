use Rattle.dcc_tariff.proofs.PlaceLemmas.{at_end, before}
use Rattle.dcc_tariff.proofs.version.version_if.Goals as goal
use Rattle.dcc_tariff.proofs.version.version_if.Goals.{in-Some+else-has_begun, in_default}

pub returns : goal.returns
returns c =
    let found = c.in_ok-version.ensures.lookup in
    elim c.match-get.branch [
      | in-Some+else-has_begun w ↦ before c.args.group c.args.moment c.args.versions.now c.args.place c.in_ok-version.version.now
          w.in-Some.next.now c.requires found.0 found.1 c.if-not-has_begun.ensures w.in-Some.ensures.lookup.1 w.if-has_begun.ensures
      | in_default w ↦ at_end c.args.group c.args.moment c.args.versions.now c.args.place c.in_ok-version.version.now c.requires
          found.0 found.1 c.if-not-has_begun.ensures w.in_default.ensures.lookup.0
    ]
