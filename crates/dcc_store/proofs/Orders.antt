-- Pages in the order of their subscribers, and subscribers that compare equal.
use Rattle.std.proofs.Common.{◌≡◌, ℕ, suc, ◌+◌, ◌<◌, Bool, List, [], ◌∷◌, length, map, get_or, ◌-◌, ◌≤◌, true, false, refl, sym, subst, ap, ◌∙◌, arith, rules}
use Rattle.std.specs.Map.{keys_of}
use Rattle.std.specs.Cmp.{IsTotalOrder}
use Rattle.std.specs.Cmp.Rules.{comparing}
use Rattle.std.specs.declared.cmp.Ordering.{Ordering}
use Rattle.std.specs.declared.cmp.Ordering.TheVariants.{Less}
use Rattle.std.specs.Ordering.{eq_by_cmp, is_lt}
use Rattle.std.specs.List.{dedup, dedup_from, AllByRecursion, IsDistinct}
use Rattle.std.specs.List.Sorted.{IsSorted, IsStrictlySortedBy}
use Rattle.std.proofs.Math.ListN.{get_or-map}
use Rattle.std.proofs.lemmas.List.{get_or_default}
use Rattle.std.proofs.lemmas.List.Kept.{IsStrictlySortedBy-dedup}
use Rattle.std.proofs.lemmas.Map.Keys.{Less-from_sorted, sorted_from_all_adjacent}
use Rattle.dcc_act.specs.declared.act.Act.{Act}
use Rattle.dcc_act.specs.declared.sub.Sub.{Sub}
use Rattle.dcc_act.specs.Subs.{same_sub}
use Rattle.dcc_store.specs.Books.{PageView, sub_order, AreInOrder}
use Rattle.dcc_store.specs.inner.Rows.{pages_of}

is_total : IsTotalOrder sub_order
is_total = search (comparing, rules)

-- subscribers are one either way
pub turned : (a b : Sub) → same_sub a b ≡ same_sub b a
turned = search (comparing, rules)

no_page : PageView
no_page = record { sub = record { kind = 0; name = [] }; acts = [] }

abbrev subs_in : List PageView → List Sub
subs_in pages = map (λ (page : PageView). page.sub) pages

sub_at : (pages : List PageView) (k : ℕ) (page : PageView) → get_or (subs_in pages) k page.sub ≡ (get_or pages k page).sub
sub_at pages k page = get_or-map (λ (page : PageView). page.sub) pages k page

as_many : (pages : List PageView) → length (subs_in pages) ≡ length pages
as_many [] = refl
as_many (page ∷ pages) = ap suc (as_many pages)

-- of equal subscribers one is before another just where the other is
less_along : (a b c d : Sub) → a ≡ c → b ≡ d → sub_order c d ≡ Less → sub_order a b ≡ Less
less_along a b c d e f less = ap (λ (s : Sub). sub_order s b) e ∙ ap (λ (s : Sub). sub_order c s) f ∙ less

-- pages are in order just where each is before the next
pub ordered : (pages : List PageView) → ((k : ℕ) (page : PageView) → k + 1 < length pages → sub_order (get_or pages k page).sub (get_or pages (k + 1) page).sub ≡ Less)
    → AreInOrder pages
ordered pages next =
    sorted_from_all_adjacent is_total (subs_in pages) no_page.sub
    (λ k below. less_along _ _ _ _ (sub_at pages k no_page) (sub_at pages (k + 1) no_page) (next k no_page (let e = as_many pages in omega (arith, e, below))))

pub before_next : (pages : List PageView) (k : ℕ) (page : PageView) → AreInOrder pages → k + 1 < length pages
    → sub_order (get_or pages k page).sub (get_or pages (k + 1) page).sub ≡ Less
before_next pages k page sorted below =
    less_along _ _ _ _ (sym (sub_at pages k page)) (sym (sub_at pages (k + 1) page))
    (Less-from_sorted sub_order (subs_in pages) k (k + 1) page.sub sorted (omega arith) (let e = as_many pages in omega (arith, e, below)))

-- the pages of rows have the order of these
pub same_subs : (rows : List (Sub × List Act)) → map (λ (page : PageView). page.sub) (pages_of rows) ≡ keys_of rows
same_subs [] = refl
same_subs (row ∷ rows) = ap (λ (subs : List Sub). row.0 ∷ subs) (same_subs rows)

-- whether the second is the first
abbrev is_again : Sub → Sub → Bool
is_again a b = same_sub b a

ties : (a b : Sub) → is_again a b ≡ eq_by_cmp sub_order a b
ties = search (comparing, rules)

-- subscribers that differ all stay where those that follow an equal one are left out
kept_behind : (first : Sub) (subs : List Sub) → AllByRecursion (λ one. same_sub first one ≡ false) subs → IsDistinct same_sub subs → dedup_from is_again first subs ≡ first ∷ subs
unfolding IsDistinct
kept_behind first [] apart distinct = refl
kept_behind first (sub ∷ subs) apart distinct = rw apart.0 (ap (λ (all : List Sub). first ∷ all) (kept_behind sub subs distinct.0 distinct.1))

all_kept : (subs : List Sub) → IsDistinct same_sub subs → dedup is_again subs ≡ subs
unfolding IsDistinct
all_kept [] distinct = refl
all_kept (sub ∷ subs) distinct = kept_behind sub subs distinct.0 distinct.1

-- so sorted ones that differ all are each before the next
pub strictly_sorted : (subs : List Sub) → IsSorted sub_order subs → IsDistinct same_sub subs → IsStrictlySortedBy sub_order subs
strictly_sorted subs sorted distinct = subst (IsStrictlySortedBy sub_order) (all_kept subs distinct) (IsStrictlySortedBy-dedup is_total {E = is_again} ties subs sorted)

pub pages_ordered : (rows : List (Sub × List Act)) → IsStrictlySortedBy sub_order (keys_of rows) → AreInOrder (pages_of rows)
pages_ordered rows sorted = let P : List Sub → Type 0 = IsStrictlySortedBy sub_order in subst P (sym (same_subs rows)) sorted

-- pages of which one isn't before the next are out of order
pub out_of_order : (pages : List PageView) (i : ℕ) (a b : PageView) (o : Ordering) → 1 ≤ i → i < length pages → a ≡ get_or pages (i - 1) a → b ≡ get_or pages i b
    → o ≡ sub_order a.sub b.sub → is_lt o ≡ false → AreInOrder pages → false ≡ true
out_of_order pages i a b o begun below a_is b_is o_is not_less sorted =
    let next : (i - 1) + 1 ≡ i = omega arith in
    let b_at : get_or pages ((i - 1) + 1) a ≡ b = ap (λ (k : ℕ). get_or pages k a) next ∙ get_or_default pages i a b below ∙ sym b_is in
    let less : sub_order a.sub b.sub ≡ Less = less_along _ _ _ _ (ap (λ (page : PageView). page.sub) a_is) (ap (λ (page : PageView). page.sub) (sym b_at))
    (before_next pages (i - 1) a sorted (omega arith)) in
    sym not_less ∙ ap is_lt (o_is ∙ less)
