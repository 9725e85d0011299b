use Rattle.std.proofs.Common.{ap, ◌∙◌, ◌++◌, ◌∷◌, []}
use Rattle.dcc_engine.specs.Engines.{PeersView}
use Rattle.dcc_engine.proofs.Tables.{peer_in-set}
use Rattle.dcc_engine.proofs.peers.Peers.set.Goals as goal

pub returns-clause-rows : goal.returns-clause-rows
returns-clause-rows c = peer_in-set c.args.self.now.rows c.remove.new.self.rows c.push_reserved.new.self.items c.args.id c.args.peer c.remove.ensures.rows (c.push_reserved.ensures.items ∙ ap (λ (t : PeersView). t.rows ++ record { id = c.args.id; peer = c.args.peer } ∷ []) c.self.view_is)
