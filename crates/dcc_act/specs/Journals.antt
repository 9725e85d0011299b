-- Journals, as contracts see them.
use Rattle.std.specs.Prelude.{ℕ, zero, suc, List, slice_get, Option, None}
use Rattle.dcc_act.specs.declared.act.Act.{Act}

-- stored acts in their order, and the number of further acts for which there is memory
pub record JournalView : Type 0 where
  pub acts : List Act
  pub spare : ℕ

-- the act at a place, counted from 1
abbrev pub act_at : List Act → ℕ → Option Act
act_at acts zero = None
act_at acts (suc before) = slice_get acts before
