use Rattle.std.proofs.Common.{inl, inr}
use Rattle.sqlite.specs.Held.{state}
use Rattle.dcc_files.proofs.Upgrades.{was_clean, found_there, not_device, no_judgement, no_failure_of_memory, clean_before, still_after, upgraded_still, upgraded_stands}
use Rattle.dcc_files.proofs.opening.upgrade_and_open.Goals as goal

pub returns-in_default-clause-other : goal.returns-in_default-clause-other
returns-in_default-clause-other g c _ = elim (c.in-Ok.ensures.other c.in_default.is) [
  | inl none ↦ inl none
  | inr mine ↦ inr mine.1
]

pub returns-in-Ok-open-clause-found : goal.returns-in-Ok-open-clause-found
returns-in-Ok-open-clause-found g c clean =
    let it = c.in-Ok-open.ensures in
    found_there c.in-Ok-open.records.terms (state g.S.Store c.in-Ok.done.1) (state g.S.Store c.in-Ok-open.records.conn) (it.still clean) (it.found clean)

pub returns-in-Err-open-clause-memory : goal.returns-in-Err-open-clause-memory
returns-in-Err-open-clause-memory g c is clean =
    let it = c.in-Err-open.ensures in
    let early = was_clean g.S.Store c.in-Ok.done.1 c.in-Err-open.conn it.left clean in
    let upgraded = rw c.in-Some.is at c.in-Ok.ensures.upgraded in
    let committed = rw c.in-Some.is at c.in-Ok.ensures.committed in
    let still = it.undone (not_device c.in-Err-open.fault c.failure.result is c.failure.ensures.others) clean in
    inr (upgraded_stands g.S.Store c.args.conn c.in-Ok.done.1 c.in-Err-open.conn c.args.setting.now (upgraded early) (committed early).0 (committed early).1 c.in-Ok.ensures.idle still)

pub returns-in-Err-clause-filled : goal.returns-in-Err-clause-filled
returns-in-Err-clause-filled g c = c.in-Err.ensures.faults.0

pub returns-in-Err-clause-other : goal.returns-in-Err-clause-other
returns-in-Err-clause-other g c is = absurd (c.in-Err.ensures.faults.1 is)

pub returns-in-Err-clause-ours : goal.returns-in-Err-clause-ours
returns-in-Err-clause-ours g c = c.in-Err.ensures.ours

pub returns-in-Err-clause-damaged : goal.returns-in-Err-clause-damaged
returns-in-Err-clause-damaged g c = c.in-Err.ensures.damaged

pub returns-in-Err-clause-disagree : goal.returns-in-Err-clause-disagree
returns-in-Err-clause-disagree g c = c.in-Err.ensures.disagree

pub returns-in-Err-clause-left : goal.returns-in-Err-clause-left
returns-in-Err-clause-left g c = c.in-Err.ensures.left

pub returns-in-Err-clause-before : goal.returns-in-Err-clause-before
returns-in-Err-clause-before g c = clean_before c.args.setting.now (state g.S.Store c.args.conn) (state g.S.Store c.in-Err.refused.1) c.in-Err.ensures.left

pub returns-in-Err-clause-undone : goal.returns-in-Err-clause-undone
returns-in-Err-clause-undone g c other memory clean = inr (c.in-Err.ensures.undone other clean)

pub returns-in-Err-clause-memory : goal.returns-in-Err-clause-memory
returns-in-Err-clause-memory g c is clean = inl (c.in-Err.ensures.undone (no_failure_of_memory c.in-Err.refused.0 is) clean)

pub returns-in_default-clause-filled : goal.returns-in_default-clause-filled
returns-in_default-clause-filled g c is = absurd (let e = is in cc)

pub returns-in_default-clause-ours : goal.returns-in_default-clause-ours
returns-in_default-clause-ours g c is = absurd (elim is [ inl e ↦ let x = e in cc | inr e ↦ let x = e in cc ])

pub returns-in_default-clause-damaged : goal.returns-in_default-clause-damaged
returns-in_default-clause-damaged g c is = absurd (let e = is in cc)

pub returns-in_default-clause-disagree : goal.returns-in_default-clause-disagree
returns-in_default-clause-disagree g c is = absurd (let e = is in cc)

pub returns-in_default-clause-memory : goal.returns-in_default-clause-memory
returns-in_default-clause-memory g c is = absurd (let e = is in cc)

pub returns-in_default-clause-before : goal.returns-in_default-clause-before
returns-in_default-clause-before g c = clean_before c.args.setting.now (state g.S.Store c.args.conn) (state g.S.Store c.in-Ok.done.1) c.in-Ok.ensures.crash

pub returns-in_default-clause-undone : goal.returns-in_default-clause-undone
returns-in_default-clause-undone g c other memory = c.in-Ok.ensures.still c.in_default.is

pub returns-in_default-clause-left : goal.returns-in_default-clause-left
returns-in_default-clause-left g c = c.in-Ok.ensures.crash

pub returns-in-Ok-open-clause-terms : goal.returns-in-Ok-open-clause-terms
returns-in-Ok-open-clause-terms g c = c.in-Ok-open.ensures.terms

pub returns-in-Ok-open-clause-going : goal.returns-in-Ok-open-clause-going
returns-in-Ok-open-clause-going g c = c.in-Ok-open.ensures.going

pub returns-in-Ok-open-clause-setting : goal.returns-in-Ok-open-clause-setting
returns-in-Ok-open-clause-setting g c = c.in-Ok-open.ensures.setting

pub returns-in-Ok-open-clause-schema : goal.returns-in-Ok-open-clause-schema
returns-in-Ok-open-clause-schema g c = rw c.in-Some.is at c.in-Ok.ensures.schema

pub returns-in-Ok-open-clause-upgraded : goal.returns-in-Ok-open-clause-upgraded
returns-in-Ok-open-clause-upgraded g c clean =
    let early = was_clean g.S.Store c.in-Ok.done.1 c.in-Ok-open.records.conn c.in-Ok-open.ensures.crash clean in
    let upgraded = rw c.in-Some.is at c.in-Ok.ensures.upgraded in
    let committed = rw c.in-Some.is at c.in-Ok.ensures.committed in
    upgraded_still c.args.setting.now (state g.S.Store c.args.conn) (state g.S.Store c.in-Ok.done.1) (state g.S.Store c.in-Ok-open.records.conn) (committed early).1 (c.in-Ok-open.ensures.still clean) (upgraded early)

pub returns-in-Ok-open-clause-count : goal.returns-in-Ok-open-clause-count
returns-in-Ok-open-clause-count g c clean =
    let early = was_clean g.S.Store c.in-Ok.done.1 c.in-Ok-open.records.conn c.in-Ok-open.ensures.crash clean in
    let counted = rw c.in-Some.is at c.in-Ok.ensures.count in
    counted early

pub returns-in-Ok-open-clause-crash : goal.returns-in-Ok-open-clause-crash
returns-in-Ok-open-clause-crash g c = still_after c.args.setting.now (state g.S.Store c.args.conn) (state g.S.Store c.in-Ok.done.1) (state g.S.Store c.in-Ok-open.records.conn) c.in-Ok.ensures.crash c.in-Ok-open.ensures.crash

pub returns-in-Ok-open-clause-early : goal.returns-in-Ok-open-clause-early
returns-in-Ok-open-clause-early g c clean = clean_before c.args.setting.now (state g.S.Store c.args.conn) (state g.S.Store c.in-Ok.done.1) c.in-Ok.ensures.crash (was_clean g.S.Store c.in-Ok.done.1 c.in-Ok-open.records.conn c.in-Ok-open.ensures.crash clean)

pub returns-in-Err-open-clause-filled : goal.returns-in-Err-open-clause-filled
returns-in-Err-open-clause-filled g c is = no_judgement c.failure.result c.failure.ensures.either (inl is)

pub returns-in-Err-open-clause-other : goal.returns-in-Err-open-clause-other
returns-in-Err-open-clause-other g c is = absurd (no_judgement c.failure.result c.failure.ensures.either (inr (inl is)))

pub returns-in-Err-open-clause-ours : goal.returns-in-Err-open-clause-ours
returns-in-Err-open-clause-ours g c is = absurd (no_judgement c.failure.result c.failure.ensures.either (inr (inr is)))

pub returns-in-Err-open-clause-damaged : goal.returns-in-Err-open-clause-damaged
returns-in-Err-open-clause-damaged g c is = absurd (no_judgement c.failure.result c.failure.ensures.either (inr (inr (inl is))))

pub returns-in-Err-open-clause-disagree : goal.returns-in-Err-open-clause-disagree
returns-in-Err-open-clause-disagree g c is = absurd (no_judgement c.failure.result c.failure.ensures.either (inr (inr (inr is))))

pub returns-in-Err-open-clause-before : goal.returns-in-Err-open-clause-before
returns-in-Err-open-clause-before g c clean = clean_before c.args.setting.now (state g.S.Store c.args.conn) (state g.S.Store c.in-Ok.done.1) c.in-Ok.ensures.crash (was_clean g.S.Store c.in-Ok.done.1 c.in-Err-open.conn c.in-Err-open.ensures.left clean)

pub returns-in-Err-open-clause-undone : goal.returns-in-Err-open-clause-undone
returns-in-Err-open-clause-undone g c other memory = absurd (elim c.failure.ensures.either [ inl is ↦ memory is | inr is ↦ other is ])

pub returns-in-Err-open-clause-left : goal.returns-in-Err-open-clause-left
returns-in-Err-open-clause-left g c = still_after c.args.setting.now (state g.S.Store c.args.conn) (state g.S.Store c.in-Ok.done.1) (state g.S.Store c.in-Err-open.conn) c.in-Ok.ensures.crash c.in-Err-open.ensures.left
