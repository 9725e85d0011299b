-- The rows of pages are those of their book.
use Rattle.std.proofs.Common.{◌≡◌, ◌≢◌, ◌⊎◌, inl, inr, ℕ, zero, suc, ◌+◌, ◌<◌, ◌≤◌, false, List, [], ◌∷◌, length, map, slice_get, Some, refl, sym, ap, ap₂, subst, ◌∙◌, arith, rules}
use Rattle.std.specs.List.{Contains, AllByRecursion}
use Rattle.std.specs.List.Sorted.{IsStrictlySortedBy}
use Rattle.std.specs.Ordering.{is_eq}
use Rattle.std.specs.declared.cmp.Ordering.TheVariants.{Less}
use Rattle.std.specs.Cmp.Rules.{comparing}
use Rattle.std.proofs.lemmas.Bool.{cases_Bool}
use Rattle.std.proofs.lemmas.List.Elements.{Contains-append_left, Contains-append_right, Contains-append_cases, Contains-push_cases}
use Rattle.sqlite.specs.Order.{Row}
use Rattle.dcc_tariff.specs.Terms.{TermsView}
use Rattle.dcc_act.specs.declared.act.Act.{Act}
use Rattle.dcc_act.specs.declared.entry.Entry.{Entry}
use Rattle.dcc_act.specs.declared.sub.Sub.{Sub}
use Rattle.dcc_act.specs.Subs.{same_sub, SameAreEqual}
use Rattle.dcc_model.specs.Outcomes.{acts}
use Rattle.dcc_act_codec.specs.Limits.{IsAct}
use Rattle.dcc_act_codec.specs.Records.{record_of}
use Rattle.dcc_store.specs.Books.{PageView, AreInOrder, acts_in, sub_order, IsBook}
use Rattle.dcc_sqlite_rows.specs.Rows.{sub_octets, act_row, entry_row, entry_rows_of}
use Rattle.dcc_sqlite_rows.specs.Pages.{IsSub, IsPage, IsOwn, entries_at, act_rows_from, entry_rows_to, page_act_rows, page_entry_rows, page_account_row, book_act_rows, book_entry_rows, book_account_rows}
use Rattle.dcc_sqlite_rows.specs.Held.{AreJust, IsActRow, IsEntryRow, IsAccountRow}
use Rattle.dcc_sqlite_rows.specs.Ordered.{act_order, entry_order, account_order}
use Rattle.dcc_sqlite_rows.proofs.Strict.{all_weaker, once_strict, act_total, entry_total, account_total, book_acts_strict, book_entries_strict, book_accounts_strict}

same_where_equal : (a b : Sub) → same_sub a b ≡ is_eq (sub_order a b)
same_where_equal = search (comparing, rules)

apart_less : (a b : Sub) → sub_order a b ≡ Less → same_sub a b ≡ false
apart_less a b less = same_where_equal a b ∙ ap is_eq less

single : (row x : Row) → Contains (x ∷ []) row → row ≡ x
single row x h = elim (Contains-push_cases [] x row h) [ inl none ↦ absurd (omega (arith, none.1)) | inr same ↦ sym same ]

-- ---- rows of one page

acts_there : (sub : List ℕ) (before : ℕ) (xs : List Act) (i : ℕ) (x : Act) → slice_get xs i ≡ Some x → Contains (act_rows_from sub before xs) (act_row sub (before + i + 1) (record_of x))
acts_there sub before [] i x h = absurd cc
acts_there sub before (y ∷ xs) zero x h = let same : y ≡ x = cc in (0, omega arith, ap₂ (λ (n : ℕ) (a : Act). act_row sub n (record_of a)) (omega arith) same)
acts_there sub before (y ∷ xs) (suc i) x h =
    let it = acts_there sub (before + 1) xs i x h in
    let at : act_row sub (before + 1 + i + 1) (record_of x) ≡ act_row sub (before + suc i + 1) (record_of x) = ap (λ (n : ℕ). act_row sub n (record_of x)) (omega arith) in
    subst (Contains (act_rows_from sub before (y ∷ xs))) at (Contains-append_right (act_row sub (before + 1) (record_of y) ∷ []) (act_rows_from sub (before + 1) xs) _ it)

acts_only : (sub : List ℕ) (before : ℕ) (xs : List Act) (row : Row) → Contains (act_rows_from sub before xs) row → (i : ℕ) × (x : Act) × (slice_get xs i ≡ Some x) × (row ≡ act_row sub (before + i + 1) (record_of x))
acts_only sub before [] row h = absurd (omega (arith, h.1))
acts_only sub before (y ∷ xs) row h = elim (Contains-append_cases (act_row sub (before + 1) (record_of y) ∷ []) (act_rows_from sub (before + 1) xs) row h) [
  | inl first ↦ (0, y, refl, single row (act_row sub (before + 1) (record_of y)) first ∙ ap (λ (n : ℕ). act_row sub n (record_of y)) (omega arith))
  | inr later ↦ let it = acts_only sub (before + 1) xs row later in (suc it.0, it.1, it.2, it.3 ∙ ap (λ (n : ℕ). act_row sub n (record_of it.1)) (omega arith))
]

entries_there : (sub : List ℕ) (place line : ℕ) (es : List Entry) (j : ℕ) (e : Entry) → slice_get es j ≡ Some e → Contains (entry_rows_of sub place line es) (entry_row sub place (line + j + 1) e)
entries_there sub place line [] j e h = absurd cc
entries_there sub place line (x ∷ es) zero e h = let same : x ≡ e = cc in (0, omega arith, ap₂ (λ (n : ℕ) (it : Entry). entry_row sub place n it) (omega arith) same)
entries_there sub place line (x ∷ es) (suc j) e h =
    let it = entries_there sub place (line + 1) es j e h in
    let at : entry_row sub place (line + 1 + j + 1) e ≡ entry_row sub place (line + suc j + 1) e = ap (λ (n : ℕ). entry_row sub place n e) (omega arith) in
    subst (Contains (entry_rows_of sub place line (x ∷ es))) at (Contains-append_right (entry_row sub place (line + 1) x ∷ []) (entry_rows_of sub place (line + 1) es) _ it)

entries_only : (sub : List ℕ) (place line : ℕ) (es : List Entry) (row : Row) → Contains (entry_rows_of sub place line es) row
    → (j : ℕ) × (e : Entry) × (slice_get es j ≡ Some e) × (row ≡ entry_row sub place (line + j + 1) e)
entries_only sub place line [] row h = absurd (omega (arith, h.1))
entries_only sub place line (x ∷ es) row h = elim (Contains-append_cases (entry_row sub place (line + 1) x ∷ []) (entry_rows_of sub place (line + 1) es) row h) [
  | inl first ↦ (0, x, refl, single row (entry_row sub place (line + 1) x) first ∙ ap (λ (n : ℕ). entry_row sub place n x) (omega arith))
  | inr later ↦ let it = entries_only sub place (line + 1) es row later in (suc it.0, it.1, it.2, it.3 ∙ ap (λ (n : ℕ). entry_row sub place n it.1) (omega arith))
]

all_there : (terms : TermsView) (sub : List ℕ) (all : List Act) (n i j : ℕ) (e : Entry) → i < n → slice_get (entries_at terms all i) j ≡ Some e
    → Contains (entry_rows_to terms sub all n) (entry_row sub (i + 1) (j + 1) e)
all_there terms sub all zero i j e below h = absurd (omega (arith, below))
all_there terms sub all (suc n) i j e below h = elim (last_or i n (omega (arith, below))) [
  | inl before ↦ Contains-append_left (entry_rows_to terms sub all n) (entry_rows_of sub (n + 1) 0 (entries_at terms all n)) _ (all_there terms sub all n i j e before h)
  | inr last ↦
      let it = entries_there sub (i + 1) 0 (entries_at terms all i) j e h in
      let at : entry_row sub (i + 1) (0 + j + 1) e ≡ entry_row sub (i + 1) (j + 1) e = ap (λ (k : ℕ). entry_row sub (i + 1) k e) (omega arith) in
      let there : Contains (entry_rows_of sub (i + 1) 0 (entries_at terms all i)) (entry_row sub (i + 1) (j + 1) e) = subst (Contains (entry_rows_of sub (i + 1) 0 (entries_at terms all i))) at it in
      Contains-append_right (entry_rows_to terms sub all n) (entry_rows_of sub (n + 1) 0 (entries_at terms all n)) _
      (subst (λ (k : ℕ). Contains (entry_rows_of sub (k + 1) 0 (entries_at terms all k)) (entry_row sub (i + 1) (j + 1) e)) last there)
]
  where
    last_or : (i n : ℕ) → i ≤ n → (i < n) ⊎ (i ≡ n)
    last_or zero zero h = inr refl
    last_or zero (suc n) h = inl (omega arith)
    last_or (suc i) zero h = absurd (omega (arith, h))
    last_or (suc i) (suc n) h = elim (last_or i n (omega (arith, h))) [ inl a ↦ inl (omega (arith, a)) | inr b ↦ inr (ap suc b) ]

all_only : (terms : TermsView) (sub : List ℕ) (all : List Act) (n : ℕ) (row : Row) → Contains (entry_rows_to terms sub all n) row
    → (i : ℕ) × (j : ℕ) × (e : Entry) × (i < n) × (slice_get (entries_at terms all i) j ≡ Some e) × (row ≡ entry_row sub (i + 1) (j + 1) e)
all_only terms sub all zero row h = absurd (omega (arith, h.1))
all_only terms sub all (suc n) row h = elim (Contains-append_cases (entry_rows_to terms sub all n) (entry_rows_of sub (n + 1) 0 (entries_at terms all n)) row h) [
  | inl before ↦ let it = all_only terms sub all n row before in let low : it.0 < n = it.3 in (it.0, it.1, it.2, omega (arith, low), it.4, it.5)
  | inr last ↦
      let it = entries_only sub (n + 1) 0 (entries_at terms all n) row last in
      (n, it.0, it.1, omega arith, it.2, it.3 ∙ ap (λ (k : ℕ). entry_row sub (n + 1) k it.1) (omega arith))
]

-- ---- pages, each of another subscriber

-- whoever has acts on pages is the subscriber of one
of_page : (P : Sub → Type 0) → SameAreEqual → (pages : List PageView) (sub : Sub) → AllByRecursion P (map (λ (page : PageView). page.sub) pages) → acts_in pages sub ≢ [] → P sub
of_page P same [] sub all some = absurd (some refl)
of_page P same (page ∷ pages) sub all some = elim (cases_Bool (same_sub page.sub sub)) [
  | inl one ↦ subst P ((same page.sub sub).0 one) all.0
  | inr apart ↦ of_page P same pages sub all.1 (λ none. some (rw apart none))
]

own_first : SameAreEqual → (page : PageView) (pages : List PageView) → acts_in (page ∷ pages) page.sub ≡ page.acts
own_first same page pages = rw ((same page.sub page.sub).1 refl) refl

-- the others' acts are those of the other pages
others_later : SameAreEqual → (page : PageView) (pages : List PageView) (sub : Sub) → AreInOrder (page ∷ pages) → acts_in pages sub ≢ [] → acts_in (page ∷ pages) sub ≡ acts_in pages sub
unfolding IsStrictlySortedBy
others_later same page pages sub sorted some =
    let apart : same_sub page.sub sub ≡ false = apart_less page.sub sub (of_page (λ s. sub_order page.sub s ≡ Less) same pages sub sorted.0 some) in
    rw apart refl

pub some_at : (xs : List Act) (i : ℕ) (x : Act) → slice_get xs i ≡ Some x → xs ≢ []
some_at [] i x h e = absurd cc
some_at (y ∷ xs) i x h e = absurd cc

pub some_below : (xs : List Act) (i : ℕ) → i < length xs → xs ≢ []
some_below [] i h e = absurd (omega (arith, h))
some_below (y ∷ xs) i h e = absurd cc

module _ (same : SameAreEqual) where
  acts_of_page : (pages : List PageView) (row : Row) → IsActRow (acts_in pages) row → Contains (book_act_rows pages) row
  acts_of_page [] row h = absurd (let e = h.3 in cc)
  acts_of_page (page ∷ pages) row h = elim (cases_Bool (same_sub page.sub h.0)) [
    | inl one ↦
        let e : page.sub ≡ h.0 = (same page.sub h.0).0 one in
        let get : slice_get page.acts h.1 ≡ Some h.2 = rw one at h.3 in
        let it = acts_there (sub_octets page.sub) 0 page.acts h.1 h.2 get in
        let is : act_row (sub_octets page.sub) (0 + h.1 + 1) (record_of h.2) ≡ row = ap₂ (λ (s : Sub) (n : ℕ). act_row (sub_octets s) n (record_of h.2)) e (omega arith) ∙ sym h.4 in
        Contains-append_left (page_act_rows page) (book_act_rows pages) row (subst (Contains (page_act_rows page)) is it)
    | inr apart ↦ Contains-append_right (page_act_rows page) (book_act_rows pages) row (acts_of_page pages row (h.0, h.1, h.2, rw apart at h.3, h.4))
  ]

  page_of_acts : (pages : List PageView) (row : Row) → AreInOrder pages → Contains (book_act_rows pages) row → IsActRow (acts_in pages) row
  unfolding IsStrictlySortedBy
  page_of_acts [] row sorted h = absurd (omega (arith, h.1))
  page_of_acts (page ∷ pages) row sorted h = elim (Contains-append_cases (page_act_rows page) (book_act_rows pages) row h) [
    | inl own ↦
        let it = acts_only (sub_octets page.sub) 0 page.acts row own in
        (page.sub, it.0, it.1, rw (own_first same page pages) it.2, it.3 ∙ ap (λ (n : ℕ). act_row (sub_octets page.sub) n (record_of it.1)) (omega arith))
    | inr later ↦
        let it = page_of_acts pages row sorted.1 later in
        (it.0, it.1, it.2, rw (others_later same page pages it.0 sorted (some_at (acts_in pages it.0) it.1 it.2 it.3)) it.3, it.4)
  ]

  pub acts_held : (pages : List PageView) → AreInOrder pages → AllByRecursion IsPage pages → AreJust (book_act_rows pages) (IsActRow (acts_in pages))
  acts_held pages sorted valid = record { there = acts_of_page pages; only = λ row. page_of_acts pages row sorted; once = once_strict act_order act_total (book_act_rows pages) (book_acts_strict pages sorted) }

  entries_of_page : (terms : TermsView) (pages : List PageView) (row : Row) → IsEntryRow terms (acts_in pages) row → Contains (book_entry_rows terms pages) row
  entries_of_page terms [] row h = absurd (omega (arith, h.4))
  entries_of_page terms (page ∷ pages) row h = elim (cases_Bool (same_sub page.sub h.0)) [
    | inl one ↦
        let e : page.sub ≡ h.0 = (same page.sub h.0).0 one in
        let below : h.1 < length page.acts = rw one at h.4 in
        let get : slice_get (entries_at terms page.acts h.1) h.2 ≡ Some h.3 = rw one at h.5 in
        let it = all_there terms (sub_octets page.sub) page.acts (length page.acts) h.1 h.2 h.3 below get in
        let is : entry_row (sub_octets page.sub) (h.1 + 1) (h.2 + 1) h.3 ≡ row = ap (λ (s : Sub). entry_row (sub_octets s) (h.1 + 1) (h.2 + 1) h.3) e ∙ sym h.6 in
        Contains-append_left (page_entry_rows terms page) (book_entry_rows terms pages) row (subst (Contains (page_entry_rows terms page)) is it)
    | inr apart ↦ Contains-append_right (page_entry_rows terms page) (book_entry_rows terms pages) row (entries_of_page terms pages row (h.0, h.1, h.2, h.3, rw apart at h.4, rw apart at h.5, h.6))
  ]

  page_of_entries : (terms : TermsView) (pages : List PageView) (row : Row) → AreInOrder pages → Contains (book_entry_rows terms pages) row → IsEntryRow terms (acts_in pages) row
  unfolding IsStrictlySortedBy
  page_of_entries terms [] row sorted h = absurd (omega (arith, h.1))
  page_of_entries terms (page ∷ pages) row sorted h = elim (Contains-append_cases (page_entry_rows terms page) (book_entry_rows terms pages) row h) [
    | inl own ↦
        let it = all_only terms (sub_octets page.sub) page.acts (length page.acts) row own in
        (page.sub, it.0, it.1, it.2, rw (own_first same page pages) it.3, rw (own_first same page pages) it.4, it.5)
    | inr later ↦
        let it = page_of_entries terms pages row sorted.1 later in
        let e = others_later same page pages it.0 sorted (some_below (acts_in pages it.0) it.1 it.4) in
        (it.0, it.1, it.2, it.3, rw e it.4, rw e it.5, it.6)
  ]

  pub entries_held : (terms : TermsView) (pages : List PageView) → AreInOrder pages → AllByRecursion IsPage pages → AreJust (book_entry_rows terms pages) (IsEntryRow terms (acts_in pages))
  entries_held terms pages sorted valid = record { there = entries_of_page terms pages; only = λ row. page_of_entries terms pages row sorted; once = once_strict entry_order entry_total (book_entry_rows terms pages) (book_entries_strict terms pages sorted) }

  account_of_page : (terms : TermsView) (pages : List PageView) (row : Row) → IsAccountRow terms (acts_in pages) row → Contains (book_account_rows terms pages) row
  account_of_page terms [] row h = absurd (h.1 refl)
  account_of_page terms (page ∷ pages) row h = elim (cases_Bool (same_sub page.sub h.0)) [
    | inl one ↦
        let e : page.sub ≡ h.0 = (same page.sub h.0).0 one in
        let is : row ≡ page_account_row terms page = rw (one, ← e) at h.2 in
        (0, omega arith, sym is)
    | inr apart ↦ Contains-append_right (page_account_row terms page ∷ []) (book_account_rows terms pages) row (account_of_page terms pages row (h.0, rw apart at h.1, rw apart at h.2))
  ]

  page_of_account : (terms : TermsView) (pages : List PageView) (row : Row) → AreInOrder pages → AllByRecursion IsPage pages → Contains (book_account_rows terms pages) row → IsAccountRow terms (acts_in pages) row
  unfolding IsStrictlySortedBy
  page_of_account terms [] row sorted valid h = absurd (omega (arith, h.1))
  page_of_account terms (page ∷ pages) row sorted valid h = elim (Contains-append_cases (page_account_row terms page ∷ []) (book_account_rows terms pages) row h) [
    | inl own ↦ (page.sub, rw (own_first same page pages) valid.0.some, rw (own_first same page pages) (single row (page_account_row terms page) own))
    | inr later ↦
        let it = page_of_account terms pages row sorted.1 valid.1 later in
        let e = others_later same page pages it.0 sorted it.1 in
        (it.0, rw e it.1, rw e it.2)
  ]

  pub accounts_held : (terms : TermsView) (pages : List PageView) → AreInOrder pages → AllByRecursion IsPage pages → AreJust (book_account_rows terms pages) (IsAccountRow terms (acts_in pages))
  accounts_held terms pages sorted valid = record { there = account_of_page terms pages; only = λ row. page_of_account terms pages row sorted valid; once = once_strict account_order account_total (book_account_rows terms pages) (book_accounts_strict terms pages sorted) }

-- ---- a book of pages

pub makes_a_book : ((terms : TermsView) → acts terms [] ≡ []) → (terms : TermsView) (pages : List PageView) → AllByRecursion (IsOwn terms) pages → IsBook terms (acts_in pages)
makes_a_book none terms [] own sub = none terms
makes_a_book none terms (page ∷ pages) own sub = elim (cases_Bool (same_sub page.sub sub)) [
  | inl one ↦ rw one own.0
  | inr apart ↦ rw apart (makes_a_book none terms pages own.1 sub)
]

-- what holds of each act of pages
module _ (P : Act → Type 0) where
  fit_at : (xs : List Act) (i : ℕ) (x : Act) → AllByRecursion P xs → slice_get xs i ≡ Some x → P x
  fit_at [] i x fit h = absurd cc
  fit_at (y ∷ xs) zero x fit h = let e : y ≡ x = cc in subst P e fit.0
  fit_at (y ∷ xs) (suc i) x fit h = fit_at xs i x fit.1 h

  pub acts_fit : (pages : List PageView) → AllByRecursion (λ page. AllByRecursion P page.acts) pages → (sub : Sub) (i : ℕ) (act : Act) → slice_get (acts_in pages sub) i ≡ Some act → P act
  acts_fit [] all sub i act h = absurd cc
  acts_fit (page ∷ pages) all sub i act h = elim (cases_Bool (same_sub page.sub sub)) [
    | inl one ↦ fit_at page.acts i act all.0 (rw one at h)
    | inr apart ↦ acts_fit pages all.1 sub i act (rw apart at h)
  ]

pub each_fits : (pages : List PageView) → AllByRecursion IsPage pages → AllByRecursion (λ page. AllByRecursion IsAct page.acts) pages
each_fits = all_weaker IsPage (λ page. AllByRecursion IsAct page.acts) (λ page it. it.fit)

pub pages_fit : (pages : List PageView) → AllByRecursion IsPage pages → (sub : Sub) (i : ℕ) (act : Act) → slice_get (acts_in pages sub) i ≡ Some act → IsAct act
pages_fit pages valid = acts_fit IsAct pages (each_fits pages valid)

pub of_subs : SameAreEqual → (pages : List PageView) → AllByRecursion IsPage pages → (sub : Sub) → acts_in pages sub ≢ [] → IsSub sub
of_subs same [] valid sub some = absurd (some refl)
of_subs same (page ∷ pages) valid sub some = elim (cases_Bool (same_sub page.sub sub)) [
  | inl one ↦ subst IsSub ((same page.sub sub).0 one) valid.0.is_of
  | inr apart ↦ of_subs same pages valid.1 sub (λ none. some (rw apart none))
]
