-- When a worker audits its receipts.
use Rattle.std.specs.Prelude.{◌≡◌, ℕ, ◌<◌, ◌⊎◌}
use Rattle.dcc_rounds.specs.Handing.{one_more}
use Rattle.dcc_rounds.specs.declared.counter.CallCounter.{CallCounter}
use Rattle.dcc_rounds.specs.declared.worker.Due.{Due}

-- an audit was asked for at most once more, and nothing was audited
abbrev pub AsksOnce : CallCounter → CallCounter → Type 0
AsksOnce old new = ((new.asked ≡ old.asked) ⊎ (new.asked ≡ one_more old.asked)) × (new.audits ≡ old.audits)

-- There was one audit. Only if the worker keeps fewer receipts than are due, and no audit was asked for since, there may be none.
abbrev pub AuditsIfDue : Due → (kept : ℕ) → CallCounter → CallCounter → Type 0
AuditsIfDue due kept old new =
    (new.asked ≡ old.asked)
    × ((new.audits ≡ one_more old.audits) ⊎ ((kept < due.receipts) × (old.asked ≡ due.asked) × (new.audits ≡ old.audits)))
