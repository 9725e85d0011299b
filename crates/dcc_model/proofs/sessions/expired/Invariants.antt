use Rattle.std.proofs.Common.{◌≡◌, ◌≤◌, take, reverse, count_by}
use Rattle.dcc_model.specs.inner.Lookback.{opened_expired}
use Rattle.dcc_model.proofs.sessions.expired.Given as goal

abbrev pub invariant-loop-done : goal.invariant-loop-done
invariant-loop-done l = record {
  counted : l.count ≡ count_by (opened_expired l.terms (reverse l.past) l.moment) (take l.done-index l.past);
  bound : l.count ≤ l.done-index;
}
