-- The work of the timer of sweeps and audits.
use Rattle.std.specs.Prelude.{◌≡◌, ℕ, true, false, List, [], Option, Some, None}
use Rattle.std.specs.List.{FoldsTo}
use Rattle.dcc_rounds.specs.Lanes.{all_put, lanes_of, put_all}
use Rattle.dcc_rounds.specs.declared.timer.SweepTimer.{SweepTimer}
use Rattle.dcc_rounds.specs.declared.work.Work.{Work}
use Rattle.dcc_rounds.specs.declared.work.Work.TheVariants as work

module _ {C : Type 0} (tells : C → ℕ → C → Type 0) where
  -- each worker was asked for a sweep at a moment that the clock returned, or for an audit
  abbrev pub AsksAll : List (List Work) × C → Option ℕ → List (List Work) × C → Type 0
  AsksAll old (Some moment) new = tells old.1 moment new.1 × (new.0 ≡ put_all (work.Sweep moment) old.0)
  AsksAll old None new = (new.1 ≡ old.1) × (new.0 ≡ put_all work.Audit old.0)

  abbrev pub TimesAsks : SweepTimer → C → SweepTimer → C → Type 0
  TimesAsks old clock new later =
      (asks : List (Option ℕ)) × FoldsTo AsksAll (all_put old.workers.items, clock) asks (all_put new.workers.items, later)
      × (lanes_of new.workers.items ≡ lanes_of old.workers.items)

  -- If places are taken again, each worker was asked for sweeps and audits until no more connections were taken in. Otherwise no worker was asked for
  -- any. Then the timer reported once to each worker that it puts nothing more.
  pub record Times (closed : Type 0) (clock : C) (old new : SweepTimer) : Type 0 where
    pub asks : List (Option ℕ)
    pub asked : List (List Work)
    pub later : C
    pub all_asked : FoldsTo AsksAll (all_put old.workers.items, clock) asks (asked, later)
    pub none : old.stays ≡ false → asks ≡ []
    pub ended : old.stays ≡ true → closed
    pub left : all_put new.workers.items ≡ put_all work.Over asked
    pub lanes : lanes_of new.workers.items ≡ lanes_of old.workers.items
