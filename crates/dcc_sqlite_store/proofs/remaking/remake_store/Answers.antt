use Rattle.sqlite.specs.Held.{state}
use Rattle.sqlite.proofs.StateLemmas.{survives_then}
use Rattle.dcc_sqlite_store.proofs.remaking.remake_store.Goals as goal

pub returns-clause-crash : goal.returns-clause-crash
returns-clause-crash g c =
    survives_then (state g.S.Store c.args.conn.now) (state g.S.Store c.commit_anew.new.conn) (state g.S.Store c.prepare.new.self) _ _ _ (λ _ db holds. holds) (λ _ db none. absurd none) c.in-Err.ensures.crash c.prepare.ensures.survives
