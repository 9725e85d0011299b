-- The parts that an account keeps.
use Rattle.std.specs.Prelude.{◌≡◌, ℕ, ◌*◌, ℤ, pos, ◌≤ℤ◌, List, length, map, reverse}
use Rattle.dcc_escrow.specs.Pools.{PoolView}
use Rattle.dcc_escrow.specs.declared.limits.TheConstants.{MOST_MONEY}
use Rattle.dcc_expiry.specs.Deadlines.{DueView}
use Rattle.dcc_tariff.specs.Terms.{TermsView}
use Rattle.dcc_act.specs.declared.entry.Entry.{Entry}
use Rattle.dcc_act.specs.declared.act.Act.{Act}
use Rattle.dcc_act.specs.declared.outcome.Outcome.{Outcome}
use Rattle.dcc_model.specs.Outcomes.{act_made, history, funds, overrun}
use Rattle.dcc_model.specs.Entries.{entries}
use Rattle.dcc_model.specs.Laws.{AreKeyed}
use Rattle.dcc_state.specs.Known.{HoldsAll}
use Rattle.dcc_state.specs.OpenSessions.{SessionView, AreOpen, KeepsDeadlines}
use Rattle.dcc_account.specs.Accounts.{outcomes}
use Rattle.dcc_account.specs.declared.indexes.Indexes.{Indexes}
use Rattle.dcc_account.specs.inner.Indexed.{IsIndexed}

-- the acts are those that their own list makes, and their services have keys of their own; the outcomes and the entries are those
-- of the definitions
pub record IsKept (terms : TermsView) (all : List Act) (came : List Outcome) (posted : List Entry) : Type 0 where
  pub keyed : AreKeyed all
  pub own : map act_made (history terms (reverse all)) ≡ reverse all
  pub came_are : came ≡ outcomes terms all
  pub entries_are : posted ≡ entries terms all

-- the most that one act overruns: the charges that the floor bears of the greatest funds
abbrev pub MAX_OVERRUN : ℕ
MAX_OVERRUN = 2 * MOST_MONEY

-- the kept sessions are those that are open, and the deadlines are theirs; the pool's reserved money is the sum of their holds, and its committed
-- money is the funds; the overrun is as defined, and within the range of computations; the indexes find the same acts as a look back over them
pub record IsRunning (terms : TermsView) (all : List Act) (came : List Outcome) (posted : List Entry) (pool : PoolView) (over : ℤ) (sessions : List SessionView) (due : DueView) (indexes : Indexes) : Type 0 where
  pub kept : IsKept terms all came posted
  pub sessions_are : AreOpen terms (history terms (reverse all)) sessions
  pub due_are : KeepsDeadlines due sessions
  pub holds : HoldsAll pool sessions
  pub funds_are : pool.committed ≡ funds terms all
  pub overrun_are : over ≡ pos (overrun terms all)
  pub overrun_is : over ≤ℤ pos (MAX_OVERRUN * length all)
  pub indexed : IsIndexed (history terms (reverse all)) indexes
