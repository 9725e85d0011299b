use Rattle.std.proofs.Common.{inl, inr, refl, arith}
use Rattle.sqlite.specs.Held.{state}
use Rattle.sqlite.specs.State.{HasCleanDisk}
use Rattle.dcc_stops.proofs.Upgraded.{Settles, holds_just, opens, upgrades, settled, has_layout_still, ready}
use Rattle.dcc_stops.proofs.upgrades.upgrade_and_open.Goals as goal

pub returns-in-Err-clause-whole : goal.returns-in-Err-clause-whole
returns-in-Err-clause-whole g c old held it either opened live clean =
    let failed = c.in-Err.ensures in
    upgrades c.old_records_differ.ensures.one c.stores_have_the_layout.ensures c.args.setting.now old held it g.S.Store c.args.conn opened live either _ clean c.in-Err.refused.0 failed.faults failed.ours failed.whole

pub returns-in-Ok-open-clause-again : goal.returns-in-Ok-open-clause-again
returns-in-Ok-open-clause-again g c old held it either opened live clean =
    let done = c.in-Ok.ensures in
    let count = c.in-Ok.done.0 in
    let mid = c.in-Ok.done.1 in
    let records = c.in-Ok-open.records in
    let early : HasCleanDisk (state g.S.Store mid) = omega (arith, c.in-Ok-open.ensures.crash.clean, clean) in
    let settles : Settles (state g.S.Store records.conn) = λ is_open db may. g.met.S.Store.settled records.conn.store db is_open may in
    let differ = c.old_records_differ.ensures.one in
    let has_layout = c.stores_have_the_layout.ensures in
    holds_just differ has_layout c.args.setting.now old held it (state g.S.Store mid) (state g.S.Store records.conn)
    (settled differ has_layout c.args.setting.now old held it g.S.Store c.args.conn opened live either mid count early done.upgraded done.committed done.still done.other count refl)
    (ready differ has_layout c.args.setting.now old held it g.S.Store c.args.conn opened live either mid count early done.upgraded done.committed done.still done.other count refl)
    (c.in-Ok-open.ensures.still clean) settles

pub returns-in-Err-open-clause-whole : goal.returns-in-Err-open-clause-whole
returns-in-Err-open-clause-whole g c old held it either opened live clean =
    let done = c.in-Ok.ensures in
    let count = c.in-Ok.done.0 in
    let mid = c.in-Ok.done.1 in
    let failed = c.in-Err-open.ensures in
    let fault = c.in-Err-open.refused.0 in
    let early : HasCleanDisk (state g.S.Store mid) = omega (arith, failed.left.clean, clean) in
    let differ = c.old_records_differ.ensures.one in
    let has_layout = c.stores_have_the_layout.ensures in
    opens differ has_layout c.args.setting.now old held it (state g.S.Store mid) fault
    (ready differ has_layout c.args.setting.now old held it g.S.Store c.args.conn opened live either mid count early done.upgraded done.committed done.still done.other count refl)
    (has_layout_still differ has_layout c.args.setting.now old held it g.S.Store c.args.conn opened live either mid count early done.upgraded done.committed done.still done.other count refl)
    (λ is. (failed.empty is).0) (λ is. elim (failed.other is) [ inl none ↦ inl none.1 | inr mine ↦ inr (mine.1 clean) ]) (λ is book. failed.whole is clean book) fault refl
