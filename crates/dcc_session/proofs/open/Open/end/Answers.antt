use Rattle.std.proofs.Common.{◌≡◌, ℕ, ap, ◌∙◌, map}
use Rattle.dcc_session.specs.Sessions.{OpenView}
use Rattle.dcc_session.specs.inner.Holds.{hold_of}
use Rattle.dcc_session.proofs.Covering.{of_pool}
use Rattle.dcc_session.proofs.open.Open.end.Goals as goal

pub release_all-requires-clause-pool : goal.release_all-requires-clause-pool
release_all-requires-clause-pool c =
    let pool : c.self.inside.pool ≡ c.args.pool.now.id = ap (λ (s : OpenView). s.pool) c.self.view_is ∙ c.requires.id in
    let held = c.self.invariant.held ∙ ap (λ (p : ℕ). map (hold_of p) c.self.inside.grants.items) pool in
    rw held (of_pool c.args.pool.now.id c.self.inside.grants.items)
