use Rattle.std.proofs.Common.{sym, subst}
use Rattle.std.proofs.Math.Logic.{∥∥₁_elim, ∥∥₁_map}
use Rattle.sqlite.specs.Effect.{Database}
use Rattle.sqlite.specs.Files.{file_state}
use Rattle.dcc_stops.specs.Upgrades.{IsOldOrUpgraded}
use Rattle.dcc_stops.proofs.Upgraded.{just_prop, decided}
use Rattle.dcc_stops.proofs.upgrades.stop_and_upgrade.Goals as goal

pub returns-in-Ok-upgrade_and_open-clause-again : goal.returns-in-Ok-upgrade_and_open-clause-again
returns-in-Ok-upgrade_and_open-clause-again g c old held it may clean =
    let done = c.in-Ok-upgrade_and_open in
    let early = done.ensures.early clean in
    let opened = c.in-Ok.ensures.opened early in
    ∥∥₁_elim (c.in-Ok.ensures.found early) (just_prop c.args.setting.now.terms (file_state done.records.conn) held) (λ left.
    done.ensures.again old held it (subst (λ (d : Database). IsOldOrUpgraded c.args.setting.now old d.trees) (sym opened.0.clean) (may _ left)) opened.0 opened.1 clean)

pub returns-in-Err-upgrade_and_open-clause-whole : goal.returns-in-Err-upgrade_and_open-clause-whole
returns-in-Err-upgrade_and_open-clause-whole g c old held it may clean =
    let failed = c.in-Err-upgrade_and_open in
    let early = failed.ensures.before clean in
    let opened = c.in-Ok.ensures.opened early in
    decided failed.fault (∥∥₁_map (c.in-Ok.ensures.found early) (λ left.
    failed.ensures.whole old held it (subst (λ (d : Database). IsOldOrUpgraded c.args.setting.now old d.trees) (sym opened.0.clean) (may _ left)) opened.0 opened.1 clean))
