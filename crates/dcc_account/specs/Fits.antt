-- The memory that a step needs.
use Rattle.std.specs.Prelude.{ℕ, ◌+◌, ◌≤◌, length, Option, MatchOption}
use Rattle.dcc_model.specs.Entries.{entries}
use Rattle.dcc_account.specs.Accounts.{AccountView}
use Rattle.dcc_account.specs.Memory.{Held, Space}

-- there is memory for so many more: in the room that is left, or in a larger vector or index
abbrev pub HasMemory : ℕ → ℕ → ℕ → Option ℕ → Type 0
HasMemory count more room larger = MatchOption larger (more ≤ room) (λ capacity. count + more ≤ capacity)

-- there is memory for one more key or deadline
abbrev pub HasPlace : Held → Option ℕ → Type 0
HasPlace held larger = HasMemory held.count 1 held.room larger

-- there is memory for one more act of the account and its outcome, so many more entries, one more open session and its deadline,
-- and one more key of each index
pub record Fits (account : AccountView) (space : Space) (more : ℕ) : Type 0 where
  pub acts : HasMemory (length account.acts) 1 account.room.acts space.acts
  pub outcomes : HasMemory (length account.acts) 1 account.room.outcomes space.outcomes
  pub entries : HasMemory (length (entries account.terms account.acts)) more account.room.entries space.entries
  pub sessions : HasMemory (length account.sessions) 1 account.room.sessions space.sessions
  pub due : HasPlace account.room.due space.due
  pub requests : HasPlace account.room.requests space.requests
  pub tickets : HasPlace account.room.tickets space.tickets
  pub opened : HasPlace account.room.opened space.opened
