use Rattle.std.proofs.Common.{◌≡◌, not, sum_by}
use Rattle.std.proofs.lemmas.List.Filters.{FiltersInPlace}
use Rattle.dcc_state.specs.Known.{prices_of}
use Rattle.dcc_state.specs.OpenSessions.{SessionView, is_over_at}
use Rattle.dcc_state.proofs.open_session.gather_open.Given as goal

-- those seen whose time isn't over stand in front, those not seen yet are where they were, and all hold together what they held
abbrev pub invariant-loop-at : goal.invariant-loop-at
invariant-loop-at l = record {
  front : FiltersInPlace (λ (other : SessionView). not (is_over_at l.moment other)) l.initial.sessions l.sessions l.kept l.at;
  held : sum_by prices_of l.sessions ≡ sum_by prices_of l.initial.sessions;
}
