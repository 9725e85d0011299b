-- Rows in the strict order of their keys.
use Rattle.std.proofs.Common.{◌≡◌, ◌≢◌, ◌⊎◌, inl, inr, ℕ, zero, suc, ◌+◌, ◌<◌, ◌≤◌, ℤ, pos, true, false, List, [], ◌∷◌, ◌++◌, length, map, get_or, refl, sym, ap, ap₂, subst, ◌∙◌, arith}
use Rattle.std.specs.Prelude.{AllPairs}
use Rattle.std.specs.Cmp.{IsTotalOrder, int_cmp_is}
use Rattle.std.specs.List.{Contains, AllByRecursion}
use Rattle.std.specs.List.Sorted.{IsSorted, IsStrictlySortedBy}
use Rattle.std.specs.Ordering.{is_eq, is_lt, int_cmp, ordering_reverse, ordering_then}
use Rattle.std.specs.declared.cmp.Ordering.{Ordering}
use Rattle.std.specs.declared.cmp.Ordering.TheVariants.{Less, Equal, Greater}
use Rattle.std.proofs.lemmas.Cmp.{int_ranked, tied_itself, on_total, then_total}
use Rattle.std.proofs.lemmas.Int.{ints}
use Rattle.std.proofs.lemmas.List.Sorted.{sorted_far, ranks_by}
use Rattle.std.proofs.lemmas.Map.Keys.{Less-from_sorted}
use Rattle.std.proofs.lemmas.Map.Text.{is_eq-slice_cmp}
use Rattle.std.proofs.lemmas.Slice.Eq.{bytes_eq-Decides}
use Rattle.sqlite.specs.declared.types.Value.TheVariants.{Int, Blob}
use Rattle.sqlite.specs.Order.{Row, column, value_cmp}
use Rattle.sqlite_value.proofs.OrderLemmas.{value_cmp_total, value_cmp-Int, value_cmp-Blob}
use Rattle.dcc_tariff.specs.Terms.{TermsView}
use Rattle.dcc_act.specs.declared.act.Act.{Act}
use Rattle.dcc_act.specs.declared.entry.Entry.{Entry}
use Rattle.dcc_act.specs.declared.sub.Sub.{Sub}
use Rattle.dcc_act_codec.specs.Records.{record_of}
use Rattle.dcc_store.specs.Books.{PageView, AreInOrder, sub_order}
use Rattle.dcc_sqlite_rows.specs.Rows.{sub_octets, act_row, entry_row, entry_rows_of, account_row}
use Rattle.dcc_sqlite_rows.specs.Pages.{entries_at, act_rows_from, entry_rows_to, page_act_rows, page_entry_rows, page_account_row, book_act_rows, book_entry_rows, book_account_rows}
use Rattle.dcc_sqlite_rows.specs.Ordered.{act_order, entry_order, account_order}

-- ---- lists

pub all_append : {X : Type 0} (P : X → Type 0) (xs ys : List X) → AllByRecursion P xs → AllByRecursion P ys → AllByRecursion P (xs ++ ys)
all_append P [] ys a b = b
all_append P (x ∷ xs) ys a b = (a.0, all_append P xs ys a.1 b)

pub all_weaker : {X : Type 0} (P Q : X → Type 0) → ((x : X) → P x → Q x) → (xs : List X) → AllByRecursion P xs → AllByRecursion Q xs
all_weaker P Q turn [] a = tt
all_weaker P Q turn (x ∷ xs) a = (turn x a.0, all_weaker P Q turn xs a.1)

-- what a list has, one element after another
abbrev pub In : {X : Type 0} → List X → X → Type 0
In [] x = ⊥
In (y ∷ ys) x = (x ≡ y) ⊎ In ys x

in_at : {X : Type 0} (xs : List X) (k : ℕ) (x : X) → k < length xs → get_or xs k x ≡ x → In xs x
in_at [] k x low is = absurd (omega (arith, low))
in_at (y ∷ ys) zero x low is = inl (sym is)
in_at (y ∷ ys) (suc k) x low is = inr (in_at ys k x (omega (arith, low)) is)

pub in_from : {X : Type 0} (xs : List X) (x : X) → Contains xs x → In xs x
in_from xs x h = in_at xs h.0 x h.1 h.2

pub in_to : {X : Type 0} (xs : List X) (x : X) → In xs x → Contains xs x
in_to [] x h = absurd h
in_to (y ∷ ys) x (inl same) = (0, omega arith, sym same)
in_to (y ∷ ys) x (inr later) = let r = in_to ys x later in (suc r.0, omega (arith, r.1), r.2)

pub in_all : {X : Type 0} (P : X → Type 0) (xs : List X) (x : X) → AllByRecursion P xs → In xs x → P x
in_all P [] x all h = absurd h
in_all P (y ∷ ys) x all (inl same) = subst P (sym same) all.0
in_all P (y ∷ ys) x all (inr later) = in_all P ys x all.1 later

pub all_from : {X : Type 0} (P : X → Type 0) (xs : List X) → ((x : X) → In xs x → P x) → AllByRecursion P xs
all_from P [] h = tt
all_from P (x ∷ xs) h = (h x (inl refl), all_from P xs (λ y there. h y (inr there)))

every : {X : Type 0} (P : X → Type 0) (ys : List X) → ((j : ℕ) (d : X) → j < length ys → P (get_or ys j d)) → AllByRecursion P ys
every P [] h = tt
every P (y ∷ ys) h = (h 0 y (omega arith), every P ys (λ j d low. h (suc j) d (omega (arith, low))))

at_in : {X : Type 0} (xs : List X) (i : ℕ) (d : X) → i < length xs → In xs (get_or xs i d)
at_in [] i d low = absurd (omega (arith, low))
at_in (x ∷ xs) zero d low = inl refl
at_in (x ∷ xs) (suc i) d low = inr (at_in xs i d (omega (arith, low)))

module _ {X : Type 0} (c : X → X → Ordering) (total : IsTotalOrder c) where
  not_itself : (x : X) → c x x ≡ Less → ⊥
  not_itself x less = let e : Equal ≡ Less = sym (tied_itself total x) ∙ less in cc

  not_both : (x y : X) → c x y ≡ Less → c y x ≡ Less → ⊥
  not_both x y a b = not_itself x (total.trans x y x a b)

  -- no element comes twice
  pub once_strict : (xs : List X) → IsStrictlySortedBy c xs → AllPairs (λ one other. one ≢ other) xs
  once_strict xs sorted i j d below within same =
      not_itself (get_or xs j d) (subst (λ (x : X). c x (get_or xs j d) ≡ Less) same (Less-from_sorted c xs i j d sorted below within))

  pub strict_append : (xs ys : List X) → IsStrictlySortedBy c xs → IsStrictlySortedBy c ys → AllByRecursion (λ x. AllByRecursion (λ y. c x y ≡ Less) ys) xs → IsStrictlySortedBy c (xs ++ ys)
  unfolding IsStrictlySortedBy
  strict_append [] ys a b low = b
  strict_append (x ∷ xs) ys a b low = (all_append (λ y. c x y ≡ Less) xs ys a.0 low.0, strict_append xs ys a.1 b low.1)

  strict_pairs : (xs : List X) → AllPairs (λ x y. c x y ≡ Less) xs → IsStrictlySortedBy c xs
  unfolding IsStrictlySortedBy
  strict_pairs [] h = tt
  strict_pairs (x ∷ xs) h = (every (λ y. c x y ≡ Less) xs (λ j d low. h 0 (suc j) d (omega arith) (omega (arith, low))), strict_pairs xs (λ i j d a b. h (suc i) (suc j) d (omega (arith, a)) (omega (arith, b))))

  less_or : (o : Ordering) → (o ≡ Less) ⊎ ((o ≡ Equal) ⊎ (o ≡ Greater))
  less_or Less = inl refl
  less_or Equal = inr (inl refl)
  less_or Greater = inr (inr refl)

  -- a sorted list in which none comes twice is in strict order, where equal keys are of one element
  pub strict_from_sorted : (xs : List X) → IsSorted c xs → AllPairs (λ one other. one ≢ other) xs → ((x y : X) → In xs x → In xs y → c x y ≡ Equal → x ≡ y) → IsStrictlySortedBy c xs
  strict_from_sorted xs sorted once ties = strict_pairs xs (λ i j d below within.
      let a = get_or xs i d in
      let b = get_or xs j d in
      let far : is_lt (c b a) ≡ false = sorted_far _ (ranks_by total (λ x. x)) xs sorted i j d (omega (arith, below)) within in
      elim (less_or (c a b)) [
        | inl less ↦ less
        | inr (inl tied) ↦ absurd (once i j d below within (ties a b (at_in xs i d (omega (arith, below, within))) (at_in xs j d within) tied))
        | inr (inr more) ↦ absurd (let turned : c b a ≡ Less = total.antisymm b a ∙ ap ordering_reverse more in let e : is_lt (c b a) ≡ true = ap is_lt turned in cc)
      ])

  -- lists in strict order that have the same elements are one
  pub same_strict : (xs ys : List X) → IsStrictlySortedBy c xs → IsStrictlySortedBy c ys → ((x : X) → In xs x → In ys x) → ((x : X) → In ys x → In xs x) → xs ≡ ys
  unfolding IsStrictlySortedBy
  same_strict [] [] a b there back = refl
  same_strict [] (y ∷ ys) a b there back = absurd (back y (inl refl))
  same_strict (x ∷ xs) [] a b there back = absurd (there x (inl refl))
  same_strict (x ∷ xs) (y ∷ ys) a b there back =
      let head : x ≡ y = elim (there x (inl refl)) [
        | inl same ↦ same
        | inr later ↦ elim (back y (inl refl)) [
          | inl same ↦ sym same
          | inr other ↦ absurd (not_both y x (in_all (λ z. c y z ≡ Less) ys x b.0 later) (in_all (λ z. c x z ≡ Less) xs y a.0 other))
        ]
      ] in
      let tail : xs ≡ ys = same_strict xs ys a.1 b.1
      (λ z h. elim (there z (inr h)) [
        | inl same ↦ absurd (not_itself x (subst (λ (w : X). c x w ≡ Less) (same ∙ sym head) (in_all (λ w. c x w ≡ Less) xs z a.0 h)))
        | inr it ↦ it
      ])
      (λ z h. elim (back z (inr h)) [
        | inl same ↦ absurd (not_itself y (subst (λ (w : X). c y w ≡ Less) (same ∙ head) (in_all (λ w. c y w ≡ Less) ys z b.0 h)))
        | inr it ↦ it
      ]) in
      ap₂ (λ (h : X) (t : List X). h ∷ t) head tail

-- ---- the keys of rows

pub act_total : IsTotalOrder act_order
act_total = then_total (on_total (λ (row : Row). column row 0) value_cmp_total) (on_total (λ (row : Row). column row 1) value_cmp_total)

pub entry_total : IsTotalOrder entry_order
entry_total =
    then_total (on_total (λ (row : Row). column row 0) value_cmp_total) (then_total (on_total (λ (row : Row). column row 1) value_cmp_total) (on_total (λ (row : Row). column row 2) value_cmp_total))

pub account_total : IsTotalOrder account_order
account_total = on_total (λ (row : Row). column row 0) value_cmp_total

-- The order of octets on type and data is that of subscribers.
pub octets_order : (a b : Sub) → value_cmp (Blob (sub_octets a)) (Blob (sub_octets b)) ≡ sub_order a b
octets_order a b = value_cmp-Blob (sub_octets a) (sub_octets b)

number_less : (a b : ℕ) → a < b → value_cmp (Int (pos a)) (Int (pos b)) ≡ Less
number_less a b low = value_cmp-Int (pos a) (pos b) ∙ sym (int_cmp_is (pos a) (pos b) Less (omega (arith, ints, low)))

itself_blob : (sub : List ℕ) → value_cmp (Blob sub) (Blob sub) ≡ Equal
itself_blob sub = tied_itself value_cmp_total (Blob sub)

itself_number : (n : ℕ) → value_cmp (Int (pos n)) (Int (pos n)) ≡ Equal
itself_number n = tied_itself value_cmp_total (Int (pos n))

pub same_blob : (a b : List ℕ) → value_cmp (Blob a) (Blob b) ≡ Equal → a ≡ b
same_blob a b tied = (bytes_eq-Decides a b).0 (sym (is_eq-slice_cmp a b) ∙ ap is_eq (sym (value_cmp-Blob a b)) ∙ ap is_eq tied)

pub same_number : (a b : ℕ) → value_cmp (Int (pos a)) (Int (pos b)) ≡ Equal → a ≡ b
same_number a b tied = let e : pos a ≡ pos b = int_ranked (pos a) (pos b) Equal (sym (sym (value_cmp-Int (pos a) (pos b)) ∙ tied)) in cc

pub then_equal : (one other : Ordering) → ordering_then one other ≡ Equal → (one ≡ Equal) × (other ≡ Equal)
then_equal Less other h = absurd cc
then_equal Equal other h = (refl, h)
then_equal Greater other h = absurd cc

-- ---- rows of pages, one page after another

flat : (PageView → List Row) → List PageView → List Row
flat rows [] = []
flat rows (page ∷ pages) = rows page ++ flat rows pages

module _ (order : Row → Row → Ordering) (total : IsTotalOrder order) (by_sub : (a b : Row) → value_cmp (column a 0) (column b 0) ≡ Less → order a b ≡ Less)
    (rows : PageView → List Row) (of : (page : PageView) → AllByRecursion (λ row. column row 0 ≡ Blob (sub_octets page.sub)) (rows page)) (strict : (page : PageView) → IsStrictlySortedBy order (rows page)) where
  later : (sub : Sub) (pages : List PageView) → AllByRecursion (λ s. sub_order sub s ≡ Less) (map (λ (page : PageView). page.sub) pages)
      → AllByRecursion (λ row. value_cmp (Blob (sub_octets sub)) (column row 0) ≡ Less) (flat rows pages)
  unfolding flat
  later sub [] all = tt
  later sub (page ∷ pages) all =
      all_append (λ row. value_cmp (Blob (sub_octets sub)) (column row 0) ≡ Less) (rows page) (flat rows pages)
      (all_weaker (λ row. column row 0 ≡ Blob (sub_octets page.sub)) (λ row. value_cmp (Blob (sub_octets sub)) (column row 0) ≡ Less) (λ row is. rw is (octets_order sub page.sub ∙ all.0)) (rows page) (of page))
      (later sub pages all.1)

  below : (sub : Sub) (xs ys : List Row) → AllByRecursion (λ row. column row 0 ≡ Blob (sub_octets sub)) xs → AllByRecursion (λ row. value_cmp (Blob (sub_octets sub)) (column row 0) ≡ Less) ys
      → AllByRecursion (λ x. AllByRecursion (λ y. order x y ≡ Less) ys) xs
  below sub [] ys own all = tt
  below sub (x ∷ xs) ys own all =
      (all_weaker (λ row. value_cmp (Blob (sub_octets sub)) (column row 0) ≡ Less) (λ y. order x y ≡ Less) (λ y less. by_sub x y (rw own.0 less)) ys all, below sub xs ys own.1 all)

  flat_strict : (pages : List PageView) → AreInOrder pages → IsStrictlySortedBy order (flat rows pages)
  unfolding IsStrictlySortedBy flat
  flat_strict [] sorted = tt
  flat_strict (page ∷ pages) sorted =
      strict_append order total (rows page) (flat rows pages) (strict page) (flat_strict pages sorted.1) (below page.sub (rows page) (flat rows pages) (of page) (later page.sub pages sorted.0))

-- ---- acts

act_by_sub : (a b : Row) → value_cmp (column a 0) (column b 0) ≡ Less → act_order a b ≡ Less
act_by_sub a b less = rw less refl

act_less : (sub : List ℕ) (place other : ℕ) (body more : List ℕ) → place < other → act_order (act_row sub place body) (act_row sub other more) ≡ Less
act_less sub place other body more low = rw (itself_blob sub) (number_less place other low)

acts_above : (sub : List ℕ) (place before : ℕ) (body : List ℕ) (xs : List Act) → place ≤ before → AllByRecursion (λ row. act_order (act_row sub place body) row ≡ Less) (act_rows_from sub before xs)
acts_above sub place before body [] low = tt
acts_above sub place before body (x ∷ xs) low = (act_less sub place (before + 1) body (record_of x) (omega (arith, low)), acts_above sub place (before + 1) body xs (omega (arith, low)))

acts_strict : (sub : List ℕ) (before : ℕ) (xs : List Act) → IsStrictlySortedBy act_order (act_rows_from sub before xs)
unfolding IsStrictlySortedBy
acts_strict sub before [] = tt
acts_strict sub before (x ∷ xs) = (acts_above sub (before + 1) (before + 1) (record_of x) xs (omega arith), acts_strict sub (before + 1) xs)

acts_of : (sub : List ℕ) (before : ℕ) (xs : List Act) → AllByRecursion (λ row. column row 0 ≡ Blob sub) (act_rows_from sub before xs)
acts_of sub before [] = tt
acts_of sub before (x ∷ xs) = (refl, acts_of sub (before + 1) xs)

flat_acts : (pages : List PageView) → flat page_act_rows pages ≡ book_act_rows pages
unfolding flat
flat_acts [] = refl
flat_acts (page ∷ pages) = ap (λ (more : List Row). page_act_rows page ++ more) (flat_acts pages)

pub book_acts_strict : (pages : List PageView) → AreInOrder pages → IsStrictlySortedBy act_order (book_act_rows pages)
book_acts_strict pages sorted =
    subst (IsStrictlySortedBy act_order) (flat_acts pages)
    (flat_strict act_order act_total act_by_sub page_act_rows (λ page. acts_of (sub_octets page.sub) 0 page.acts) (λ page. acts_strict (sub_octets page.sub) 0 page.acts) pages sorted)

-- ---- entries

entry_by_sub : (a b : Row) → value_cmp (column a 0) (column b 0) ≡ Less → entry_order a b ≡ Less
entry_by_sub a b less = rw less refl

entry_by_line : (sub : List ℕ) (place line other : ℕ) (one more : Entry) → line < other → entry_order (entry_row sub place line one) (entry_row sub place other more) ≡ Less
entry_by_line sub place line other one more low = rw (itself_blob sub, itself_number place) (number_less line other low)

-- the row is of this subscriber, and of an act at this place
abbrev IsAt : List ℕ → ℕ → Row → Type 0
IsAt sub place row = (column row 0 ≡ Blob sub) × (column row 1 ≡ Int (pos place))

abbrev IsUpTo : List ℕ → ℕ → Row → Type 0
IsUpTo sub most row = (place : ℕ) × (place ≤ most) × IsAt sub place row

entry_by_place : (sub : List ℕ) (most other : ℕ) (x y : Row) → IsUpTo sub most x → IsAt sub other y → most < other → entry_order x y ≡ Less
entry_by_place sub most other x y a b low = rw (a.2.0, b.0, a.2.1, b.1, itself_blob sub, number_less a.0 other (omega (arith, a.1, low))) refl

lines_above : (sub : List ℕ) (place line before : ℕ) (one : Entry) (es : List Entry) → line ≤ before → AllByRecursion (λ row. entry_order (entry_row sub place line one) row ≡ Less) (entry_rows_of sub place before es)
lines_above sub place line before one [] low = tt
lines_above sub place line before one (e ∷ es) low = (entry_by_line sub place line (before + 1) one e (omega (arith, low)), lines_above sub place line (before + 1) one es (omega (arith, low)))

lines_strict : (sub : List ℕ) (place line : ℕ) (es : List Entry) → IsStrictlySortedBy entry_order (entry_rows_of sub place line es)
unfolding IsStrictlySortedBy
lines_strict sub place line [] = tt
lines_strict sub place line (e ∷ es) = (lines_above sub place (line + 1) (line + 1) e es (omega arith), lines_strict sub place (line + 1) es)

lines_at : (sub : List ℕ) (place line : ℕ) (es : List Entry) → AllByRecursion (IsAt sub place) (entry_rows_of sub place line es)
lines_at sub place line [] = tt
lines_at sub place line (e ∷ es) = ((refl, refl), lines_at sub place (line + 1) es)

module _ (terms : TermsView) (sub : List ℕ) (all : List Act) where
  places_up_to : (n most : ℕ) → n ≤ most → AllByRecursion (IsUpTo sub most) (entry_rows_to terms sub all n)
  places_up_to zero most low = tt
  places_up_to (suc n) most low =
      all_append (IsUpTo sub most) (entry_rows_to terms sub all n) (entry_rows_of sub (n + 1) 0 (entries_at terms all n)) (places_up_to n most (omega (arith, low)))
      (all_weaker (IsAt sub (n + 1)) (IsUpTo sub most) (λ row at. (n + 1, omega (arith, low), at)) (entry_rows_of sub (n + 1) 0 (entries_at terms all n)) (lines_at sub (n + 1) 0 (entries_at terms all n)))

  all_below : (most other : ℕ) (xs ys : List Row) → most < other → AllByRecursion (IsUpTo sub most) xs → AllByRecursion (IsAt sub other) ys → AllByRecursion (λ x. AllByRecursion (λ y. entry_order x y ≡ Less) ys) xs
  all_below most other [] ys low a b = tt
  all_below most other (x ∷ xs) ys low a b = (all_weaker (IsAt sub other) (λ y. entry_order x y ≡ Less) (λ y at. entry_by_place sub most other x y a.0 at low) ys b, all_below most other xs ys low a.1 b)

  places_strict : (n : ℕ) → IsStrictlySortedBy entry_order (entry_rows_to terms sub all n)
  unfolding IsStrictlySortedBy
  places_strict zero = tt
  places_strict (suc n) =
      let front = entry_rows_to terms sub all n in
      let back = entry_rows_of sub (n + 1) 0 (entries_at terms all n) in
      strict_append entry_order entry_total front back (places_strict n) (lines_strict sub (n + 1) 0 (entries_at terms all n))
      (all_below n (n + 1) front back (omega arith) (places_up_to n n (omega arith)) (lines_at sub (n + 1) 0 (entries_at terms all n)))

entries_of : (terms : TermsView) (page : PageView) → AllByRecursion (λ row. column row 0 ≡ Blob (sub_octets page.sub)) (page_entry_rows terms page)
entries_of terms page =
    all_weaker (IsUpTo (sub_octets page.sub) (length page.acts)) (λ row. column row 0 ≡ Blob (sub_octets page.sub)) (λ row at. at.2.0) (page_entry_rows terms page)
    (places_up_to terms (sub_octets page.sub) page.acts (length page.acts) (length page.acts) (omega arith))

flat_entries : (terms : TermsView) (pages : List PageView) → flat (page_entry_rows terms) pages ≡ book_entry_rows terms pages
unfolding flat
flat_entries terms [] = refl
flat_entries terms (page ∷ pages) = ap (λ (more : List Row). page_entry_rows terms page ++ more) (flat_entries terms pages)

pub book_entries_strict : (terms : TermsView) (pages : List PageView) → AreInOrder pages → IsStrictlySortedBy entry_order (book_entry_rows terms pages)
book_entries_strict terms pages sorted =
    subst (IsStrictlySortedBy entry_order) (flat_entries terms pages)
    (flat_strict entry_order entry_total entry_by_sub (page_entry_rows terms) (entries_of terms) (λ page. places_strict terms (sub_octets page.sub) page.acts (length page.acts)) pages sorted)

-- ---- accounts

account_by_sub : (a b : Row) → value_cmp (column a 0) (column b 0) ≡ Less → account_order a b ≡ Less
account_by_sub a b less = less

abbrev page_account_rows : TermsView → PageView → List Row
page_account_rows terms page = page_account_row terms page ∷ []

one_strict : (row : Row) → IsStrictlySortedBy account_order (row ∷ [])
unfolding IsStrictlySortedBy
one_strict row = (tt, tt)

flat_accounts : (terms : TermsView) (pages : List PageView) → flat (page_account_rows terms) pages ≡ book_account_rows terms pages
unfolding flat
flat_accounts terms [] = refl
flat_accounts terms (page ∷ pages) = ap (λ (more : List Row). page_account_row terms page ∷ more) (flat_accounts terms pages)

pub book_accounts_strict : (terms : TermsView) (pages : List PageView) → AreInOrder pages → IsStrictlySortedBy account_order (book_account_rows terms pages)
book_accounts_strict terms pages sorted =
    subst (IsStrictlySortedBy account_order) (flat_accounts terms pages)
    (flat_strict account_order account_total account_by_sub (page_account_rows terms) (λ page. (refl, tt)) (λ page. one_strict (page_account_row terms page)) pages sorted)
