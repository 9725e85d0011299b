-- Tallies of subscribers.
use Rattle.std.proofs.Common.{◌≡◌, inl, inr, ℕ, zero, suc, ◌+◌, ◌<◌, ◌≤◌, ℤ, ◌+ℤ◌, pos, Bool, true, false, cond, List, [], ◌∷◌, length, map, take, drop, get_or, Option, Some, None, IsSome, unwrap_or, refl, sym, ap, subst, ◌∙◌, arith, rules}
use native.Mathlib.Numerals.{add-one}
use Rattle.std.proofs.Math.IntN.{+ℤ_assoc, +ℤ_comm}
use Rattle.std.specs.Map.{lookup}
use Rattle.std.specs.Ordering.{is_eq}
use Rattle.std.specs.Cmp.Rules.{comparing}
use Rattle.std.proofs.lemmas.Bool.{cases_Bool}
use Rattle.std.proofs.lemmas.List.{get_or-map, drop_all, drop_more}
use Rattle.dcc_tariff.specs.Terms.{TermsView}
use Rattle.dcc_act.specs.declared.entry.Entry.{Entry}
use Rattle.dcc_act.specs.declared.sub.Sub.{Sub}
use Rattle.dcc_act.specs.Subs.{same_sub, SameAreEqual}
use Rattle.dcc_model.specs.Entries.{sum_of}
use Rattle.dcc_model.specs.Laws.{EntriesAddUp}
use Rattle.dcc_store.specs.Books.{Held, PageView, acts_in, sub_order}
use Rattle.dcc_sqlite_rows.specs.declared.tally.Tally.{Tally}
use Rattle.dcc_sqlite_rows.specs.Tallies.{tally_of}
use Rattle.dcc_sqlite_store.specs.inner.Tallies.{tally_in, no_tally, AreTallies}
use Rattle.dcc_sqlite_store.specs.inner.Steps.{HasPlace}
use Rattle.dcc_sqlite_store.proofs.First.{no_tallies}

sum_suc : (es : List Entry) (i : ℕ) (e : Entry) → i < length es → sum_of (take (suc i) es) ≡ sum_of (take i es) +ℤ (get_or es i e).amount
sum_suc [] i e below = absurd (omega (arith, below))
sum_suc (x ∷ es) zero e below = +ℤ_comm x.amount (pos 0)
sum_suc (x ∷ es) (suc i) e below = ap (λ n. x.amount +ℤ n) (sum_suc es i e (omega (arith, below))) ∙ sym (+ℤ_assoc x.amount (sum_of (take i es)) (get_or es i e).amount)

-- the sum with one entry more
pub sum_more : (es : List Entry) (i : ℕ) (e : Entry) (start total next : ℤ) → i < length es → total ≡ start +ℤ sum_of (take i es) → e ≡ get_or es i e → next ≡ total +ℤ e.amount
    → next ≡ start +ℤ sum_of (take (i + 1) es)
sum_more es i e start total next below so_far at added =
    added ∙ ap (λ n. n +ℤ e.amount) so_far ∙ +ℤ_assoc start (sum_of (take i es)) e.amount
    ∙ ap (λ n. start +ℤ n) (ap (λ (it : Entry). sum_of (take i es) +ℤ it.amount) at ∙ sym (sum_suc es i e below) ∙ ap (λ (k : ℕ). sum_of (take k es)) (sym (add-one i)))

pub same_where_equal : (a b : Sub) → same_sub a b ≡ is_eq (sub_order a b)
same_where_equal = search (comparing, rules)

pub equal_subs : (a b : Sub) → SameAreEqual → is_eq (sub_order a b) ≡ true → a ≡ b
equal_subs a b same h = (same a b).0 (same_where_equal a b ∙ h)

-- a tally of nothing where there was none changes none
pub room_made : (old new : List (Sub × Tally)) (sub : Sub) → SameAreEqual → lookup (λ key. is_eq (sub_order sub key)) old ≡ None
    → ((q : Sub) → lookup (λ key. is_eq (sub_order q key)) new ≡ cond (is_eq (sub_order sub q)) (Some no_tally) (lookup (λ key. is_eq (sub_order q key)) old))
    → (other : Sub) → tally_in new other ≡ tally_in old other
room_made old new sub same none updates other =
    ap (λ (o : Option Tally). unwrap_or o no_tally) (updates other)
    ∙ elim (cases_Bool (is_eq (sub_order sub other))) [
      | inl one ↦
          let e : sub ≡ other = equal_subs sub other same one in
          let gone : lookup (λ key. is_eq (sub_order other key)) old ≡ None = ap (λ (s : Sub). lookup (λ key. is_eq (sub_order s key)) old) (sym e) ∙ none in
          rw (one, gone) refl
      | inr apart ↦ rw apart refl
    ]

some_chosen : (b : Bool) (tally : Tally) (there : Option Tally) → IsSome there → IsSome (cond b (Some tally) there)
some_chosen true tally there some = refl
some_chosen false tally there some = some

-- who had a place has it once a tally is put in place
pub place_kept : (old new : List (Sub × Tally)) (sub : Sub) (tally : Tally)
    → ((q : Sub) → lookup (λ key. is_eq (sub_order q key)) new ≡ cond (is_eq (sub_order sub q)) (Some tally) (lookup (λ key. is_eq (sub_order q key)) old))
    → (other : Sub) → HasPlace old other → HasPlace new other
place_kept old new sub tally updates other place =
    subst IsSome (sym (updates other)) (some_chosen (is_eq (sub_order sub other)) tally (lookup (λ key. is_eq (sub_order other key)) old) place)

pub tallies_same : (terms : TermsView) (old new : List (Sub × Tally)) (held : Held) → ((other : Sub) → tally_in new other ≡ tally_in old other) → AreTallies terms old held → AreTallies terms new held
tallies_same terms old new held same are other = same other ∙ are other

-- ---- tallies of pages

tally_chosen : (b : Bool) (tally : Tally) (there : Option Tally) → unwrap_or (cond b (Some tally) there) no_tally ≡ cond b tally (unwrap_or there no_tally)
tally_chosen true tally there = refl
tally_chosen false tally there = refl

-- the tally that is put in place
pub tally_put : (old new : List (Sub × Tally)) (sub : Sub) (tally : Tally)
    → ((q : Sub) → lookup (λ key. is_eq (sub_order q key)) new ≡ cond (is_eq (sub_order sub q)) (Some tally) (lookup (λ key. is_eq (sub_order q key)) old))
    → (other : Sub) → tally_in new other ≡ cond (is_eq (sub_order sub other)) tally (tally_in old other)
tally_put old new sub tally updates other =
    ap (λ (o : Option Tally). unwrap_or o no_tally) (updates other) ∙ tally_chosen (is_eq (sub_order sub other)) tally (lookup (λ key. is_eq (sub_order other key)) old)

-- one page more, before the others
page_before : (terms : TermsView) (old new : List (Sub × Tally)) (page : PageView) (pages : List PageView) (count : Tally) → count ≡ tally_of terms page
    → ((other : Sub) → tally_in new other ≡ cond (is_eq (sub_order page.sub other)) count (tally_in old other)) → AreTallies terms old (acts_in pages) → AreTallies terms new (acts_in (page ∷ pages))
page_before terms old new page pages count is set are other =
    set other
    ∙ elim (cases_Bool (is_eq (sub_order page.sub other))) [
      | inl one ↦ rw (one, same_where_equal page.sub other, one, is) refl
      | inr apart ↦ rw (apart, same_where_equal page.sub other, apart) (are other)
    ]

-- no page yet
pub tallies_begin : (terms : TermsView) (pages : List PageView) (n : ℕ) (tallies : List (Sub × Tally)) → EntriesAddUp → length pages ≤ n → tallies ≡ [] → AreTallies terms tallies (acts_in (drop n pages))
tallies_begin terms pages n tallies add_up end none = rw (none, drop_all n pages end) (no_tallies terms add_up)

-- the page before those that are done
pub tallies_next : (terms : TermsView) (pages : List PageView) (counts : List Tally) (i n : ℕ) (page : PageView) (none : Tally) (old new : List (Sub × Tally)) → n ≡ i + 1 → i < length pages
    → page ≡ get_or pages i page → counts ≡ map (tally_of terms) pages
    → ((other : Sub) → tally_in new other ≡ cond (is_eq (sub_order page.sub other)) (get_or counts i none) (tally_in old other)) → AreTallies terms old (acts_in (drop n pages))
    → AreTallies terms new (acts_in (drop i pages))
tallies_next terms pages counts i n page none old new next below at are_counts set are =
    let is : get_or counts i none ≡ tally_of terms page =
    ap (λ (all : List Tally). get_or all i none) are_counts ∙ get_or-map (tally_of terms) pages i page none below ∙ ap (tally_of terms) (sym at) in
    let split : drop i pages ≡ page ∷ drop n pages =
    drop_more pages i page below ∙ ap (λ (p : PageView). p ∷ drop (i + 1) pages) (sym at) ∙ ap (λ (k : ℕ). page ∷ drop k pages) (sym next) in
    rw split (page_before terms old new page (drop n pages) (get_or counts i none) is set are)
