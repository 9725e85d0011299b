use Rattle.std.proofs.Common.{inl, inr, length, sym, ap, ◌∙◌}
use Rattle.std.proofs.Math.Logic.{∥∥₁_map}
use Rattle.sqlite.specs.Effect.{Database}
use Rattle.sqlite.specs.Held.{Held, state}
use Rattle.sqlite.specs.State.{HasCleanDisk}
use Rattle.sqlite.specs.Tree.{Trees}
use Rattle.dcc_sqlite_store.specs.Trees.{act_rows}
use Rattle.dcc_sqlite_store.specs.Upgrade.{HasOldSetting, IsUpgraded, IsOldDamagedIn, OldDisagreeIn}
use Rattle.dcc_files.proofs.Upgrades.{shows_same, along, no_failure, no_failure_of_memory, still_alone, still_before, found_there, undone_then, stands_along}
use Rattle.dcc_files.proofs.opening.open_or_upgrade.Goals as goal

pub returns-in-Err-upgrade_and_open-clause-other : goal.returns-in-Err-upgrade_and_open-clause-other
returns-in-Err-upgrade_and_open-clause-other g c sees is has clean =
    let first = c.in-Err.ensures in
    let it = c.in-Err-upgrade_and_open.ensures in
    let same = shows_same g.S.Store c.args.conn c.in-Err.refused.1 first.left sees (it.before clean) (first.undone (no_failure c.in-Err.refused.0 c.in-Layout.is) (it.before clean)) in (
      elim (first.other c.in-Layout.is) [ inl none ↦ absurd (none.1 has) | inr mine ↦ mine.1 (it.before clean) ],
      λ old. elim (it.other is) [
        | inl none ↦ none (ap (λ (d : Database). d.schema) same ∙ has)
        | inr mine ↦ mine clean (along (HasOldSetting c.args.setting.now) _ _ (sym same) old)
      ],
    )

pub returns-in-Err-upgrade_and_open-clause-tables : goal.returns-in-Err-upgrade_and_open-clause-tables
returns-in-Err-upgrade_and_open-clause-tables g c is =
    elim (c.in-Err.ensures.other c.in-Layout.is) [
      | inl none ↦ inl (none.0, none.1)
      | inr mine ↦ inr mine.0
    ]

pub returns-in-Err-upgrade_and_open-clause-ours : goal.returns-in-Err-upgrade_and_open-clause-ours
returns-in-Err-upgrade_and_open-clause-ours g c is =
    elim (c.in-Err.ensures.other c.in-Layout.is) [
      | inl none ↦ absurd (none.1 (ap (λ (h : Held g.row.S.Denot). h.schema) (sym none.2) ∙ (c.in-Err-upgrade_and_open.ensures.ours is).0))
      | inr mine ↦ mine.0
    ]

pub returns-in-Err-upgrade_and_open-clause-damaged : goal.returns-in-Err-upgrade_and_open-clause-damaged
returns-in-Err-upgrade_and_open-clause-damaged g c sees is clean =
    let first = c.in-Err.ensures in
    let it = c.in-Err-upgrade_and_open.ensures in
    let same = shows_same g.S.Store c.args.conn c.in-Err.refused.1 first.left sees (it.before clean) (first.undone (no_failure c.in-Err.refused.0 c.in-Layout.is) (it.before clean)) in
    inr (along (HasOldSetting c.args.setting.now) _ _ same ((it.ours (inl is)).1 clean), along IsOldDamagedIn _ _ same (it.damaged is clean))

pub returns-in-Err-upgrade_and_open-clause-disagree : goal.returns-in-Err-upgrade_and_open-clause-disagree
returns-in-Err-upgrade_and_open-clause-disagree g c sees is clean =
    let first = c.in-Err.ensures in
    let it = c.in-Err-upgrade_and_open.ensures in
    let same = shows_same g.S.Store c.args.conn c.in-Err.refused.1 first.left sees (it.before clean) (first.undone (no_failure c.in-Err.refused.0 c.in-Layout.is) (it.before clean)) in
    inr (along (HasOldSetting c.args.setting.now) _ _ same ((it.ours (inr is)).1 clean), along (OldDisagreeIn c.args.setting.now.terms) _ _ same (it.disagree is clean))

pub returns-in-Ok-clause-terms : goal.returns-in-Ok-clause-terms
returns-in-Ok-clause-terms g c = c.in-Ok.ensures.terms

pub returns-in-Ok-clause-going : goal.returns-in-Ok-clause-going
returns-in-Ok-clause-going g c = c.in-Ok.ensures.going

pub returns-in-Ok-clause-setting : goal.returns-in-Ok-clause-setting
returns-in-Ok-clause-setting g c = c.in-Ok.ensures.setting

pub returns-in-Ok-clause-schema : goal.returns-in-Ok-clause-schema
returns-in-Ok-clause-schema g c = c.in-Ok.ensures.schema

pub returns-in-Ok-clause-still : goal.returns-in-Ok-clause-still
returns-in-Ok-clause-still g c none clean = c.in-Ok.ensures.still clean

pub returns-in-Ok-clause-upgraded : goal.returns-in-Ok-clause-upgraded
returns-in-Ok-clause-upgraded g c sees = tt

pub returns-in-Ok-clause-count : goal.returns-in-Ok-clause-count
returns-in-Ok-clause-count g c sees = tt

pub returns-in-Ok-clause-crash : goal.returns-in-Ok-clause-crash
returns-in-Ok-clause-crash g c sees = still_alone c.args.setting.now (state g.S.Store c.args.conn) (state g.S.Store c.in-Ok.records.conn) c.in-Ok.ensures.crash

pub returns-in-Ok-clause-found : goal.returns-in-Ok-clause-found
returns-in-Ok-clause-found g c clean =
    let it = c.in-Ok.ensures in
    found_there c.in-Ok.records.terms (state g.S.Store c.args.conn) (state g.S.Store c.in-Ok.records.conn) (it.still clean) (it.found clean)

pub returns-in-Ok-upgrade_and_open-clause-schema : goal.returns-in-Ok-upgrade_and_open-clause-schema
returns-in-Ok-upgrade_and_open-clause-schema g c =
    elim (c.in-Err.ensures.other c.in-Layout.is) [
      | inl none ↦ absurd (none.1 (ap (λ (h : Held g.row.S.Denot). h.schema) (sym none.2) ∙ c.in-Ok-upgrade_and_open.ensures.schema))
      | inr mine ↦ mine.0
    ]

pub returns-in-Ok-upgrade_and_open-clause-upgraded : goal.returns-in-Ok-upgrade_and_open-clause-upgraded
returns-in-Ok-upgrade_and_open-clause-upgraded g c sees clean =
    let first = c.in-Err.ensures in
    let it = c.in-Ok-upgrade_and_open.ensures in
    let same = shows_same g.S.Store c.args.conn c.in-Err.refused.1 first.left sees (it.early clean) (first.undone (no_failure c.in-Err.refused.0 c.in-Layout.is) (it.early clean)) in
    along (λ (t : Trees). ∥ IsUpgraded c.args.setting.now t (state g.S.Store c.in-Ok-upgrade_and_open.records.conn).now.trees ∥₁) _ _ same (it.upgraded clean)

pub returns-in-Ok-upgrade_and_open-clause-count : goal.returns-in-Ok-upgrade_and_open-clause-count
returns-in-Ok-upgrade_and_open-clause-count g c sees clean =
    let first = c.in-Err.ensures in
    let it = c.in-Ok-upgrade_and_open.ensures in
    let same = shows_same g.S.Store c.args.conn c.in-Err.refused.1 first.left sees (it.early clean) (first.undone (no_failure c.in-Err.refused.0 c.in-Layout.is) (it.early clean)) in
    it.count clean ∙ ap (λ (d : Database). length (act_rows d.trees)) same

pub returns-in-Ok-upgrade_and_open-clause-crash : goal.returns-in-Ok-upgrade_and_open-clause-crash
returns-in-Ok-upgrade_and_open-clause-crash g c sees =
    let first = c.in-Err.ensures in
    let it = c.in-Ok-upgrade_and_open.ensures in
    let same = λ (early : HasCleanDisk (state g.S.Store c.in-Err.refused.1)). shows_same g.S.Store c.args.conn c.in-Err.refused.1 first.left sees early (first.undone (no_failure c.in-Err.refused.0 c.in-Layout.is) early) in
    still_before c.args.setting.now (state g.S.Store c.args.conn) (state g.S.Store c.in-Err.refused.1) (state g.S.Store c.in-Ok-upgrade_and_open.records.conn) same first.left it.crash

pub returns-in-Err-upgrade_and_open-clause-undone : goal.returns-in-Err-upgrade_and_open-clause-undone
returns-in-Err-upgrade_and_open-clause-undone g c other memory clean =
    let first = c.in-Err.ensures in
    let it = c.in-Err-upgrade_and_open.ensures in
    undone_then g.S.Store c.args.conn c.in-Err.refused.1 c.in-Err-upgrade_and_open.refused.1 (first.undone (no_failure c.in-Err.refused.0 c.in-Layout.is) (it.before clean)) (it.undone other memory clean)

pub returns-in-Err-upgrade_and_open-clause-memory : goal.returns-in-Err-upgrade_and_open-clause-memory
returns-in-Err-upgrade_and_open-clause-memory g c sees is clean =
    let first = c.in-Err.ensures in
    let it = c.in-Err-upgrade_and_open.ensures in
    let still = first.undone (no_failure c.in-Err.refused.0 c.in-Layout.is) (it.before clean) in
    let same = shows_same g.S.Store c.args.conn c.in-Err.refused.1 first.left sees (it.before clean) still in
    elim (it.memory is clean) [
      | inl undone ↦ inl (undone_then g.S.Store c.args.conn c.in-Err.refused.1 c.in-Err-upgrade_and_open.refused.1 still (inr undone))
      | inr stands ↦ inr (∥∥₁_map stands (stands_along c.args.setting.now (state g.S.Store c.args.conn) (state g.S.Store c.in-Err.refused.1) (state g.S.Store c.in-Err-upgrade_and_open.refused.1) same))
    ]

pub returns-in-Err-upgrade_and_open-clause-left : goal.returns-in-Err-upgrade_and_open-clause-left
returns-in-Err-upgrade_and_open-clause-left g c sees =
    let first = c.in-Err.ensures in
    let it = c.in-Err-upgrade_and_open.ensures in
    let same = λ (early : HasCleanDisk (state g.S.Store c.in-Err.refused.1)). shows_same g.S.Store c.args.conn c.in-Err.refused.1 first.left sees early (first.undone (no_failure c.in-Err.refused.0 c.in-Layout.is) early) in
    still_before c.args.setting.now (state g.S.Store c.args.conn) (state g.S.Store c.in-Err.refused.1) (state g.S.Store c.in-Err-upgrade_and_open.refused.1) same first.left it.left

pub returns-in-Ok-upgrade_and_open-clause-terms : goal.returns-in-Ok-upgrade_and_open-clause-terms
returns-in-Ok-upgrade_and_open-clause-terms g c = c.in-Ok-upgrade_and_open.ensures.terms

pub returns-in-Ok-upgrade_and_open-clause-going : goal.returns-in-Ok-upgrade_and_open-clause-going
returns-in-Ok-upgrade_and_open-clause-going g c = c.in-Ok-upgrade_and_open.ensures.going

pub returns-in-Ok-upgrade_and_open-clause-setting : goal.returns-in-Ok-upgrade_and_open-clause-setting
returns-in-Ok-upgrade_and_open-clause-setting g c = c.in-Ok-upgrade_and_open.ensures.setting

pub returns-in-Ok-upgrade_and_open-clause-found : goal.returns-in-Ok-upgrade_and_open-clause-found
returns-in-Ok-upgrade_and_open-clause-found g c = c.in-Ok-upgrade_and_open.ensures.found

pub returns-in-Ok-upgrade_and_open-clause-still : goal.returns-in-Ok-upgrade_and_open-clause-still
returns-in-Ok-upgrade_and_open-clause-still g c none = absurd (let e = none in cc)

pub returns-in-Err-upgrade_and_open-clause-empty : goal.returns-in-Err-upgrade_and_open-clause-empty
returns-in-Err-upgrade_and_open-clause-empty g c is = absurd (c.in-Err-upgrade_and_open.ensures.filled is)

pub returns-in_default-clause-empty : goal.returns-in_default-clause-empty
returns-in_default-clause-empty g c = c.in-Err.ensures.empty

pub returns-in_default-clause-tables : goal.returns-in_default-clause-tables
returns-in_default-clause-tables g c is = absurd (c.in_default.not-Layout is)

pub returns-in_default-clause-other : goal.returns-in_default-clause-other
returns-in_default-clause-other g c sees is = absurd (c.in_default.not-Layout is)

pub returns-in_default-clause-ours : goal.returns-in_default-clause-ours
returns-in_default-clause-ours g c is = (c.in-Err.ensures.ours is).0

pub returns-in_default-clause-damaged : goal.returns-in_default-clause-damaged
returns-in_default-clause-damaged g c sees is clean = inl ((c.in-Err.ensures.ours (inl is)).1 clean, c.in-Err.ensures.damaged is clean)

pub returns-in_default-clause-disagree : goal.returns-in_default-clause-disagree
returns-in_default-clause-disagree g c sees is clean = inl ((c.in-Err.ensures.ours (inr is)).1 clean, c.in-Err.ensures.disagree is clean)

pub returns-in_default-clause-undone : goal.returns-in_default-clause-undone
returns-in_default-clause-undone g c other memory = c.in-Err.ensures.undone other

pub returns-in_default-clause-memory : goal.returns-in_default-clause-memory
returns-in_default-clause-memory g c sees is clean = inl (c.in-Err.ensures.undone (no_failure_of_memory c.in-Err.refused.0 is) clean)

pub returns-in_default-clause-left : goal.returns-in_default-clause-left
returns-in_default-clause-left g c sees = still_alone c.args.setting.now (state g.S.Store c.args.conn) (state g.S.Store c.in-Err.refused.1) c.in-Err.ensures.left
