-- What is kept, and what entries add up to.
use Rattle.std.proofs.Common.{◌≡◌, ℕ, List, [], ◌∷◌, ◌++◌, sym, ap, ◌∙◌}
use Rattle.std.specs.Prelude.{ℤ, ◌+ℤ◌}
use Rattle.std.proofs.Math.IntN.{+ℤ_assoc, +ℤ_idl}
use Rattle.dcc_act.specs.declared.act.Act.{Act}
use Rattle.dcc_act.specs.declared.entry.Entry.{Entry}
use Rattle.dcc_model.specs.Entries.{sum_of}
use Rattle.dcc_store.specs.Contents.{Kept}

abbrev pub kept_with : List Act → List Entry → ℕ → ℤ → Kept
kept_with all posted count money = record { acts = all; entries = posted; account = record { acts = count; funds = money } }

pub sum-append : (xs ys : List Entry) → sum_of (xs ++ ys) ≡ sum_of xs +ℤ sum_of ys
sum-append [] ys = sym (+ℤ_idl (sum_of ys))
sum-append (x ∷ xs) ys = ap (λ n. x.amount +ℤ n) (sum-append xs ys) ∙ sym (+ℤ_assoc x.amount (sum_of xs) (sum_of ys))
