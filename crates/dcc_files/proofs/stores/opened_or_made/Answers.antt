use Rattle.std.proofs.Common.{rules, refl}
use Rattle.dcc_files.specs.Stores.{HasNoSetting}
use Rattle.dcc_files.proofs.Refusals.{no_setting, open_fault_is}
use Rattle.dcc_files.proofs.Upgrades.{of_shard}
use Rattle.dcc_files.proofs.stores.opened_or_made.Goals as goal

pub returns-in_default-clause-refused : goal.returns-in_default-clause-refused
returns-in_default-clause-refused g c =
    let none : HasNoSetting c.args.plan.now c.args.shard = search rules in
    no_setting g.S.Store c.args.plan.now c.args.shard c.args.conn 53 refl none

pub returns-in-Some-unopened-clause-refused : goal.returns-in-Some-unopened-clause-refused
returns-in-Some-unopened-clause-refused g c =
    let it = c.in-Err.ensures in
    let told = c.in-Some-unopened.ensures.some in
    open_fault_is g.S.Store c.args.plan.now c.args.shard c.args.conn c.in-Err.refused.1 c.in-Some.setting c.in-Some-unopened.refusal.0 c.in-Err.refused.0 c.in-Some.ensures.some told.0 told.1 it.tables (it.other c.requires) it.ours (it.damaged c.requires) (it.disagree c.requires)

pub returns-in-Ok-clause-upgraded : goal.returns-in-Ok-clause-upgraded
returns-in-Ok-clause-upgraded g c =
    let it = c.in-Ok.ensures in
    of_shard c.args.plan.now c.args.shard c.in-Some.setting _ _ _ c.in-Ok.opened.1 c.in-Some.ensures.some (it.upgraded c.requires) (it.count c.requires)
