use Rattle.std.proofs.lemmas.Result.{IfOk-weaker, IfErr-weaker}
use Rattle.sqlite.specs.Held.{state}
use Rattle.dcc_sqlite_store.specs.Queries.{all_accounts, accounts_query}
use Rattle.dcc_sqlite_store.proofs.Texts.{all_accounts_is, all_accounts_plain, all_accounts_unlisted}
use Rattle.dcc_sqlite_store.proofs.Answering.{plain_under, shows_all, shown_same, failed_back, commits_nothing}
use Rattle.dcc_sqlite_store.proofs.reading.read_accounts.Goals as goal

pub returns-clause-rows : goal.returns-clause-rows
returns-clause-rows g c clean has =
    IfOk-weaker c.all_rows.result _ _ (λ rows h. shows_all all_accounts accounts_query _ all_accounts_is all_accounts_plain all_accounts_unlisted (state g.S.Store c.args.conn.now) (state g.S.Store c.all_rows.new.conn) rows.items has h) (c.all_rows.ensures.ok clean (plain_under all_accounts all_accounts_plain (state g.S.Store c.args.conn.now) has))

pub returns-clause-same : goal.returns-clause-same
returns-clause-same g c clean has =
    IfOk-weaker c.all_rows.result _ _ (λ rows h. shown_same all_accounts all_accounts_plain (state g.S.Store c.args.conn.now) (state g.S.Store c.all_rows.new.conn) rows.items has h) (c.all_rows.ensures.ok clean (plain_under all_accounts all_accounts_plain (state g.S.Store c.args.conn.now) has))

pub returns-clause-failed : goal.returns-clause-failed
returns-clause-failed g c clean has =
    IfErr-weaker c.all_rows.result _ _ (λ e h. failed_back all_accounts all_accounts_plain (state g.S.Store c.args.conn.now) (state g.S.Store c.all_rows.new.conn) e has h) (c.all_rows.ensures.err clean (plain_under all_accounts all_accounts_plain (state g.S.Store c.args.conn.now) has))

pub returns-clause-crash : goal.returns-clause-crash
returns-clause-crash g c = commits_nothing all_accounts all_accounts_plain (state g.S.Store c.args.conn.now) (state g.S.Store c.all_rows.new.conn) c.all_rows.ensures.survives
