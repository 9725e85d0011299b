-- Refusals in the order of a sweep.
use Rattle.std.proofs.Common.{◌≡◌, ◌<◌, ◌+◌, ℕ, zero, suc, Bool, true, false, if◌then◌else◌, List, [], ◌∷◌, ◌++◌, length, drop, get_or, arith, sym, ap, subst, ◌∙◌}
use Rattle.std.specs.List.{AllByRecursion}
use Rattle.std.specs.List.Sorted.{IsStrictlySortedBy}
use Rattle.std.specs.declared.cmp.Ordering.{Ordering}
use Rattle.std.specs.declared.cmp.Ordering.TheVariants.{Less}
use Rattle.std.proofs.Math.Seq.{drop-cons}
use Rattle.std.proofs.lemmas.List.{append_assoc, append-nil}
use Rattle.dcc_act.specs.declared.sub.Sub.{Sub}
use Rattle.dcc_engine.specs.declared.event.Out.{Out}

all_without : (P : Sub → Type 0) (xs ys : List Sub) (y : Sub) → AllByRecursion P (xs ++ y ∷ ys) → AllByRecursion P (xs ++ ys)
all_without P [] ys y all = all.1
all_without P (x ∷ xs) ys y all = (all.0, all_without P xs ys y all.1)

-- one left out, the others are in order
without : (c : Sub → Sub → Ordering) (xs ys : List Sub) (y : Sub) → IsStrictlySortedBy c (xs ++ y ∷ ys) → IsStrictlySortedBy c (xs ++ ys)
unfolding IsStrictlySortedBy
without c [] ys y sorted = sorted.1
without c (x ∷ xs) ys y sorted = (all_without (λ s. c x s ≡ Less) xs ys y sorted.0, without c xs ys y sorted.1)

-- none are in order
pub none_in_order : (c : Sub → Sub → Ordering) (subs : List Sub) → subs ≡ [] → IsStrictlySortedBy c subs
unfolding IsStrictlySortedBy
none_in_order c [] none = tt
none_in_order c (sub ∷ subs) none = absurd cc

-- the refused and those to come, after one more
pub order_more : (c : Sub → Sub → Ordering) (before then_refused rest all : List Sub) (sub : Sub) (judged : Bool) → all ≡ sub ∷ rest → IsStrictlySortedBy c (before ++ all)
    → then_refused ≡ (if judged then before else before ++ sub ∷ []) → IsStrictlySortedBy c (then_refused ++ rest)
order_more c before then_refused rest all sub true is sorted noted =
    let here = subst (λ (xs : List Sub). IsStrictlySortedBy c (before ++ xs)) is sorted in
    rw noted (without c before rest sub here)
order_more c before then_refused rest all sub false is sorted noted =
    let here = subst (λ (xs : List Sub). IsStrictlySortedBy c (before ++ xs)) is sorted in
    rw noted (subst (IsStrictlySortedBy c) (sym (append_assoc before (sub ∷ []) rest)) here)

-- the next to come
pub next_to_come : (subs : List Sub) (i : ℕ) (sub : Sub) → i < length subs → sub ≡ get_or subs i sub → drop i subs ≡ sub ∷ drop (i + 1) subs
next_to_come subs i sub below is =
    let next : suc i ≡ i + 1 = omega arith in
    drop-cons subs i sub below ∙ ap (λ (n : ℕ). get_or subs i sub ∷ drop n subs) next ∙ ap (λ (s : Sub). s ∷ drop (i + 1) subs) (sym is)

-- what holds of each out, with one more
pub all_more : (P : Out → Type 0) (outs : List Out) (out : Out) → ((k : ℕ) (d : Out) → k < length outs → P (get_or outs k d)) → P out
    → (k : ℕ) (d : Out) → k < length (outs ++ out ∷ []) → P (get_or (outs ++ out ∷ []) k d)
all_more P [] out all here zero d below = here
all_more P [] out all here (suc k) d below = absurd (omega (arith, below))
all_more P (first ∷ outs) out all here zero d below = all 0 first (omega arith)
all_more P (first ∷ outs) out all here (suc k) d below =
    all_more P outs out (λ j e lower. all (suc j) e (omega (arith, lower))) here k d (omega (arith, below))

-- none are to come
pub order_at_end : (c : Sub → Sub → Ordering) (refused rest : List Sub) → rest ≡ [] → IsStrictlySortedBy c (refused ++ rest) → IsStrictlySortedBy c refused
order_at_end c refused rest none sorted =
    subst (IsStrictlySortedBy c) (ap (λ (xs : List Sub). refused ++ xs) none ∙ append-nil refused) sorted
