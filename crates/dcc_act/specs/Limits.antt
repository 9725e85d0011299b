-- The limits by which an act is judged.
use Rattle.std.specs.Prelude.{ℕ}
use Rattle.dcc_act.specs.declared.limits.TheConstants.{FEW_SESSIONS, MAX_SESSIONS}
use Rattle.dcc_act.specs.declared.session_limit.SessionLimit.{SessionLimit}
use Rattle.dcc_act.specs.declared.session_limit.SessionLimit.TheVariants.{Few, Many}

-- the most sessions that a subscriber may have open at once
abbrev pub most_sessions : SessionLimit → ℕ
most_sessions Few = FEW_SESSIONS
most_sessions Many = MAX_SESSIONS
