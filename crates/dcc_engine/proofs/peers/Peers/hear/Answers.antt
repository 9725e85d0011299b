use Rattle.std.proofs.Common.{◌==◌, ◌∙◌, List, Some, ap, cond, subst, sym}
use Rattle.dcc_engine.specs.Engines.{PeersView, peer_in}
use Rattle.dcc_engine.specs.inner.Rows.{IsAt}
use Rattle.dcc_engine.specs.declared.peers.PeerRow.{PeerRow}
use Rattle.dcc_engine.proofs.Places.{there, written}
use Rattle.dcc_engine.proofs.peers.Peers.hear.Goals as goal

pub returns-clause-heard : goal.returns-clause-heard
returns-clause-heard c =
    let id = c.args.id in
    let i = c.in_ok-i.i in
    let inside = c.self.inside.rows.items in
    let at : IsAt inside id i = subst (λ (rows : List PeerRow). IsAt rows id i) c.deref.ensures.value c.in_ok-i.ensures.found in
    let row = c.index_mut-row.result.now in
    let reads = c.index_mut-row.ensures.value in
    let to = c.dispatch.new.peer in
    let given = c.dispatch.ensures in
    let rows_are = ap (λ (peers : PeersView). peers.rows) c.self.view_is in
    record {
      from = row.peer;
      to = to;
      from_is = ap (λ (rows : List PeerRow). peer_in rows id) (sym rows_are) ∙ there inside id i row at reads;
      charging = given.charging;
      asked = given.asked;
      sought = given.sought;
      kept = given.kept;
      named = given.«open»;
      replied = given.replied;
      rows = λ q. written inside id i row to at reads q ∙ ap (λ (rows : List PeerRow). cond (id == q) (Some to) (peer_in rows q)) rows_are;
    }
