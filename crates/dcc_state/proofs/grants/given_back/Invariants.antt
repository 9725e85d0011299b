use Rattle.std.proofs.Common.{◌≡◌, ◌*◌, take, pos, ◌≤ℤ◌}
use Rattle.dcc_session.specs.Grants.{given_back}
use Rattle.dcc_state.proofs.grants.given_back.Given as goal

abbrev pub invariant-loop-held : goal.invariant-loop-held
invariant-loop-held l = record {
  sum : l.sum ≡ pos (given_back (take l.held-index l.own) l.services);
  high : l.sum ≤ℤ pos (1_000_000_000_000_000_000 * l.held-index);
}
