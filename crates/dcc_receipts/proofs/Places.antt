-- What stands at a receipt's place.
use Rattle.std.proofs.Common.{◌≡◌, ℕ, zero, suc, ◌+◌, ◌-◌, ◌<◌, ◌≤◌, Bool, true, false, not, ◌&&◌, ◌||◌, ◌==◌, nat_lt, List, length, get_or, slice_get, Option, Some, refl, sym, ap, ◌∙◌, arith}
use Rattle.std.proofs.lemmas.Grind.{common_steps}
use Rattle.std.proofs.lemmas.Option.{slice_get_read}
use Rattle.dcc_act.specs.declared.act.Act.{Act}
use Rattle.dcc_act.specs.Journals.{act_at}
use Rattle.dcc_receipts.specs.Audit.{agrees, is_there}
use Rattle.dcc_receipts.specs.declared.receipt.Receipt.{Receipt}

pub agrees_at : (opened : ℕ) (all : List Act) (r : Receipt) (there : Act) → 0 < r.place → r.place ≤ length all → there ≡ get_or all (r.place - 1) there
    → agrees opened all r ≡ (is_there (Some there) r && (not r.fresh || nat_lt opened r.place))
agrees_at opened all r there some within is =
    let found : slice_get all (r.place - 1) ≡ Some there = slice_get_read all (length all) (r.place - 1) there refl (omega arith) is in
    let no : (r.place == 0) ≡ false = grind (arith, common_steps) in
    rw (no, found) refl

act_at_is : (all : List Act) (place : ℕ) → 0 < place → act_at all place ≡ slice_get all (place - 1)
act_at_is all zero some = absurd (omega (arith, some))
act_at_is all (suc before) some = let same : before ≡ suc before - 1 = omega arith in ap (slice_get all) same

-- the same by what is found at the place
pub agrees_where : (opened : ℕ) (all : List Act) (r : Receipt) (found : Option Act) → 0 < r.place → found ≡ act_at all r.place
    → agrees opened all r ≡ (is_there found r && (not r.fresh || nat_lt opened r.place))
agrees_where opened all r found some is =
    let there : slice_get all (r.place - 1) ≡ found = sym (is ∙ act_at_is all r.place some) in
    let no : (r.place == 0) ≡ false = grind (arith, common_steps) in
    rw (no, there) refl
