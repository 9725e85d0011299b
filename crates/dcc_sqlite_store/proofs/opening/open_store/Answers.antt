use Rattle.std.proofs.Common.{ap, ◌∙◌}
use Rattle.std.proofs.lemmas.Result.{IfOk-weaker}
use Rattle.sqlite.specs.Held.{state}
use Rattle.sqlite.specs.Effect.{Database}
use Rattle.dcc_sqlite_store.specs.Setting.{setting_row}
use Rattle.dcc_sqlite_store.specs.Trees.{setting_rows}
use Rattle.dcc_sqlite_store.specs.inner.Opening.{rows_in}
use Rattle.dcc_sqlite_store.proofs.Answering.{setting_shown, setting_there}
use Rattle.dcc_sqlite_store.proofs.Opened.{keeps_pages}
use Rattle.dcc_sqlite_store.proofs.Rowids.{keyed_where_rising}
use Rattle.dcc_sqlite_store.proofs.opening.open_store.Goals as goal

pub returns-clause-kept : goal.returns-clause-kept
returns-clause-kept g c clean has =
    let old = state g.S.Store c.args.conn.now in
    let law = c.pages_hold_their_rows.ensures in
    let it = c.in-Ok.ensures in
    let shown = it.rows clean has in
    IfOk-weaker c.judge_store.result _ _
    (λ tallies book.
    keeps_pages law.acts law.entries law.accounts law.book law.fit law.subs c.args.setting.now.terms old (state g.S.Store c.read_store.new.conn) (rows_in c.in-Ok.found) book.pages tallies.entries
    (it.still clean has c.requires.settled (λ e. absurd cc)) c.requires.settled (it.same clean has).0.was_open has (keyed_where_rising old.now.trees c.in-Ok.found.rowids.items shown.rowids book.rising) shown.rows book.rows book.tallied)
    c.judge_store.ensures.book

pub returns-clause-still : goal.returns-clause-still
returns-clause-still g c clean has other = c.in-Ok.ensures.still clean has c.requires.settled (λ e. absurd cc)

pub returns-clause-other : goal.returns-clause-other
returns-clause-other g c clean has is there =
    let shown = (c.in-Ok.ensures.rows clean has).setting in
    c.judge_store.ensures.other is (setting_there (state g.S.Store c.args.conn.now).now.trees c.in-Ok.found.setting.items (setting_row c.args.setting.now) shown there)

pub returns-clause-set : goal.returns-clause-set
returns-clause-set g c clean has =
    let it = c.in-Ok.ensures in
    let shown = (it.rows clean has).setting in
    let same = (it.same clean has).0.now_is in
    IfOk-weaker c.judge_store.result _ _
    (λ tallies is. ap (λ (db : Database). setting_rows db.trees) same
    ∙ setting_shown (state g.S.Store c.args.conn.now).now.trees c.in-Ok.found.setting.items (setting_row c.args.setting.now) shown is) c.judge_store.ensures.set

pub returns-clause-ours : goal.returns-clause-ours
returns-clause-ours g c clean has is =
    let shown = (c.in-Ok.ensures.rows clean has).setting in
    setting_shown (state g.S.Store c.args.conn.now).now.trees c.in-Ok.found.setting.items (setting_row c.args.setting.now) shown (c.judge_store.ensures.ours is)

pub returns-clause-damaged : goal.returns-clause-damaged
returns-clause-damaged g c clean has is = (rows_in c.in-Ok.found, (c.in-Ok.ensures.rows clean has).rows, c.judge_store.ensures.damaged is)

pub returns-clause-disagree : goal.returns-clause-disagree
returns-clause-disagree g c clean has is =
    let no = c.judge_store.ensures.disagree is in
    (rows_in c.in-Ok.found, (c.in-Ok.ensures.rows clean has).rows, no.0, no.1)

pub returns-clause-was_open : goal.returns-clause-was_open
returns-clause-was_open g c clean has =
    IfOk-weaker c.judge_store.result _ _ (λ tallies is. (c.in-Ok.ensures.same clean has).0.was_open) c.judge_store.ensures.set
