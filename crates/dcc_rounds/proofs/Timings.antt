-- How the timer of sweeps and audits ends.
use Rattle.std.proofs.Common.{◌≡◌, ℕ, true, false, List, [], Option, ◌∙◌}
use Rattle.std.specs.List.{FoldsTo}
use Rattle.dcc_rounds.specs.Lanes.{all_put, lanes_of, put_all}
use Rattle.dcc_rounds.specs.Timing.{AsksAll, Times}
use Rattle.dcc_rounds.specs.declared.timer.SweepTimer.{SweepTimer}
use Rattle.dcc_rounds.specs.declared.work.Work.TheVariants as work

pub times_of : {C : Type 0} (tells : C → ℕ → C → Type 0) (closed : Type 0) (clock later : C) (old mid new : SweepTimer) (asks : List (Option ℕ))
    → FoldsTo (AsksAll tells) (all_put old.workers.items, clock) asks (all_put mid.workers.items, later) → lanes_of mid.workers.items ≡ lanes_of old.workers.items
    → (old.stays ≡ false → asks ≡ []) → (old.stays ≡ true → closed) → all_put new.workers.items ≡ put_all work.Over (all_put mid.workers.items)
    → lanes_of new.workers.items ≡ lanes_of mid.workers.items → Times tells closed clock old new
times_of tells closed clock later old mid new asks all_asked lanes none ended left same =
    record { asks = asks; asked = all_put mid.workers.items; later = later; all_asked = all_asked; none = none; ended = ended; left = left; lanes = same ∙ lanes }
