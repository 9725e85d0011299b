use Rattle.std.proofs.Common.{rules, ◌==◌, not, ap, cond, None, ◌∙◌, List}
use Rattle.std.proofs.lemmas.Fn.{filter_same}
use Rattle.dcc_engine.specs.Engines.{PeersView, peer_in}
use Rattle.dcc_engine.specs.declared.peers.PeerRow.{PeerRow}
use Rattle.dcc_engine.proofs.Tables.{peer_in-filter}
use Rattle.dcc_engine.proofs.peers.Peers.remove.Goals as goal

pub returns-clause-rows : goal.returns-clause-rows
returns-clause-rows c = λ q.
    let kept = filter_same _ (λ (row : PeerRow). not (row.id == c.args.id)) _ (λ x b f' k. search rules) _ _ c.retain.ensures.filtered in
    ap (λ (rows : List PeerRow). peer_in rows q) kept ∙ peer_in-filter c.self.inside.rows.items c.args.id q ∙ ap (λ (t : PeersView). cond (c.args.id == q) None (peer_in t.rows q)) c.self.view_is
