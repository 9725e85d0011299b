-- What is due by time in a server that stays.
use Rattle.std.specs.Prelude.{ℕ, ◌+◌, ◌-◌, ◌^◌, ◌&&◌, Bool, min, nat_le, nat_lt, if◌then◌else◌}
use Rattle.dcc_rounds.specs.declared.face.Tick.{Tick}
use Rattle.dcc_rounds.specs.declared.face.Tick.TheVariants.{Nothing, Sweep, Audit}
use Rattle.dcc_sockets.specs.declared.dues.Dues.{Dues}

-- so many seconds more, as far as they are counted
abbrev pub later : ℕ → ℕ → ℕ
later passed seconds = min (passed + seconds) (2 ^ 64 - 1)

-- a sweep is due so many seconds after the last, and never if these are 0
abbrev pub is_sweep_due : ℕ → ℕ → Bool
is_sweep_due every passed = nat_lt 0 every && nat_le every passed

-- What is due so many seconds after the last sweep, and so many after the last audit. A sweep is an audit too. An audit alone is due 60 seconds after the last.
abbrev pub due_after : (every swept audited : ℕ) → Tick × Dues
due_after every swept audited =
    if is_sweep_due every swept then (Sweep, record { swept = 0; audited = 0 })
    else (if nat_le 60 audited then (Audit, record { swept = swept; audited = 0 }) else (Nothing, record { swept = swept; audited = audited }))
