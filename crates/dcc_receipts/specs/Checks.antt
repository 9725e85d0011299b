-- The conditions under which the receipts of one seat agree with the acts of one subscriber, who had no acts at opening.
use Rattle.std.specs.Prelude.{◌≡◌, ℕ, ◌<◌, ◌≤◌, Bool, true, List, [], length}
use Rattle.dcc_act.specs.declared.act.Act.{Act}
use Rattle.dcc_receipts.specs.Audit.{all_agree, times, in_order}
use Rattle.dcc_receipts.specs.declared.receipt.Receipt.{Receipt}

-- each receipt agrees with the acts, and no place has two fresh receipts
pub record AreTrue (all : List Act) (receipts : List Receipt) : Type 0 where
  pub agree : all_agree 0 all receipts ≡ true
  pub single : (place : ℕ) → times place receipts ≤ 1

-- each act has exactly one fresh receipt
abbrev pub AreCovered : List Act → List Receipt → Type 0
AreCovered all receipts = (place : ℕ) → 0 < place → place ≤ length all → times place receipts ≡ 1

-- each receipt is after all receipts before it
abbrev pub AreOrdered : List Receipt → Type 0
AreOrdered receipts = in_order [] receipts ≡ true
