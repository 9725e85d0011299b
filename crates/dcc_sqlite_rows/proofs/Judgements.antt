-- A page, act by act, and pages, one after another.
use Rattle.std.proofs.Common.{◌≡◌, ◌≢◌, ◌⊎◌, inl, inr, ℕ, zero, suc, ◌+◌, ◌-◌, ◌<◌, ◌≤◌, Bool, true, false, cond, List, [], ◌∷◌, ◌++◌, length, map, take, drop, get_or, refl, sym, ap, ap₂, subst, ◌∙◌, arith, append_assoc, append-nil, length-append}
use native.Mathlib.Numerals.{add-one}
use Rattle.std.specs.List.{AllByRecursion}
use Rattle.std.proofs.lemmas.List.{map-append}
use Rattle.std.proofs.lemmas.List as lists
use Rattle.std.proofs.lemmas.Grind.{take_at_read}
use Rattle.sqlite.specs.Order.{Row}
use Rattle.dcc_tariff.specs.Terms.{TermsView}
use Rattle.dcc_act.specs.declared.act.Act.{Act}
use Rattle.dcc_act.specs.declared.entry.Entry.{Entry}
use Rattle.dcc_model.specs.Outcomes.{acts, is_new}
use Rattle.dcc_model.specs.Entries.{entries}
use Rattle.dcc_model.specs.Laws.{OneMoreAct}
use Rattle.dcc_store.specs.Books.{PageView}
use Rattle.dcc_sqlite_rows.specs.declared.tally.Tally.{Tally}
use Rattle.dcc_sqlite_rows.specs.Rows.{entry_rows_of, account_row, sub_octets}
use Rattle.dcc_sqlite_rows.specs.Pages.{entries_at, entry_rows_to, page_entry_rows, book_entry_rows, book_account_rows}
use Rattle.dcc_sqlite_rows.specs.Tallies.{tally_of, account_rows_by}
use Rattle.dcc_sqlite_rows.specs.inner.Judged.{IsTaken, IsOther}
use Rattle.dcc_sqlite_rows.proofs.Lists.{drop_at_end, take_at_end, take_plus, split_at, length_taken}
use Rattle.dcc_sqlite_rows.proofs.EntryRows.{as_many, same_at}

-- ---- acts that are new, one after another

few_acts : OneMoreAct → (terms : TermsView) (xs ys : List Act) → length (acts terms (xs ++ ys)) ≤ length (acts terms xs) + length ys
few_acts one terms xs [] = let e = ap (λ (l : List Act). length (acts terms l)) (append-nil xs) in omega (arith, e)
few_acts one terms xs (y ∷ ys) =
    let e : length (acts terms (xs ++ y ∷ ys)) ≡ length (acts terms ((xs ++ y ∷ []) ++ ys)) = ap (λ (l : List Act). length (acts terms l)) (sym (append_assoc xs (y ∷ []) ys)) in
    let rest = few_acts one terms (xs ++ y ∷ []) ys in
    let more : length (acts terms (xs ++ y ∷ [])) ≤ length (acts terms xs) + 1 = grown (is_new terms xs y) (ap length (one terms xs y)) in
    omega (arith, e, rest, more)
  where
    grown : (b : Bool) {n : ℕ} → n ≡ length (cond b (acts terms xs ++ y ∷ []) (acts terms xs)) → n ≤ length (acts terms xs) + 1
    grown true e = let l = length-append (acts terms xs) (y ∷ []) in omega (arith, e, l)
    grown false e = omega (arith, e)

-- where an act isn't new, the list isn't what it makes
pub not_own : OneMoreAct → (terms : TermsView) (all : List Act) (i : ℕ) (act : Act) → i < length all → act ≡ get_or all i act → acts terms (take i all ++ act ∷ []) ≡ take i all → acts terms all ≢ all
not_own one terms all i act below is old same =
    let next : take (i + 1) all ≡ take i all ++ act ∷ [] = (take_at_read all i act below).1 ∙ ap (λ (a : Act). take i all ++ a ∷ []) (sym is) in
    let stays : acts terms (take (i + 1) all) ≡ take i all = ap (acts terms) next ∙ old in
    let few = few_acts one terms (take (i + 1) all) (drop (i + 1) all) in
    let whole : length (acts terms (take (i + 1) all ++ drop (i + 1) all)) ≡ length all = ap (λ (l : List Act). length (acts terms l)) (split_at (i + 1) all) ∙ ap length same in
    let a : length (acts terms (take (i + 1) all)) ≡ i = ap length stays ∙ length_taken i all (omega (arith, below)) in
    let b = length_taken (i + 1) all (omega (arith, below)) in
    let c : length (take (i + 1) all) + length (drop (i + 1) all) ≡ length all = sym (length-append (take (i + 1) all) (drop (i + 1) all)) ∙ ap length (split_at (i + 1) all) in
    absurd (omega (arith, few, whole, a, b, c, below))

pub made_more : (all : List Act) (i : ℕ) (act : Act) (before after : List Act) → i < length all → act ≡ get_or all i act → before ≡ take i all → after ≡ before ++ act ∷ [] → after ≡ take (i + 1) all
made_more all i act before after below is so_far more =
    more ∙ ap (λ (l : List Act). l ++ act ∷ []) so_far ∙ sym ((take_at_read all i act below).1 ∙ ap (λ (a : Act). take i all ++ a ∷ []) (sym is))

-- ---- the rows of a page's entries

pub entries_of_act : (terms : TermsView) (all : List Act) (i : ℕ) (act : Act) (es : List Entry) → i < length all → act ≡ get_or all i act
    → entries terms (take i all ++ act ∷ []) ≡ entries terms (take i all) ++ es → entries_at terms all i ≡ es
entries_of_act terms all i act es below is more =
    let next : take (i + 1) all ≡ take i all ++ act ∷ [] = (take_at_read all i act below).1 ∙ ap (λ (a : Act). take i all ++ a ∷ []) (sym is) in
    ap (λ (l : List Entry). drop (length (entries terms (take i all))) l) (ap (entries terms) next ∙ more) ∙ drop_at_end (length (entries terms (take i all))) (entries terms (take i all)) es refl

module _ (terms : TermsView) (sub : List ℕ) (all : List Act) (rows : List Row) where
  rest_is : (at : ℕ) (rest : List Row) → rest ≡ take (length rows - at) (drop at rows) → rest ≡ drop at rows
  rest_is at rest is = is ∙ lists.take_all (length rows - at) (drop at rows) (let l = lists.length-drop at rows in omega (arith, l))

  pub next_rows : (i at : ℕ) (es : List Entry) (rest : List Row) → at ≤ length rows → rest ≡ take (length rows - at) (drop at rows) → take at rows ≡ entry_rows_to terms sub all i → entries_at terms all i ≡ es
      → take (length es) rest ≡ entry_rows_of sub (i + 1) 0 es → (at + length es ≤ length rows) × (take (at + length es) rows ≡ entry_rows_to terms sub all (i + 1))
  next_rows i at es rest within is so_far are begins =
      let left : take (length es) (drop at rows) ≡ entry_rows_of sub (i + 1) 0 es = ap (take (length es)) (sym (rest_is at rest is)) ∙ begins in
      let n : length (take (length es) (drop at rows)) ≡ length es = ap length left ∙ as_many sub (i + 1) 0 es in
      let m = lists.length-take (length es) (drop at rows) in
      let d = lists.length-drop at rows in (
        omega (arith, n, m, d, within),
        take_plus at (length es) rows ∙ ap₂ (λ (a b : List Row). a ++ b) so_far (left ∙ ap (entry_rows_of sub (i + 1) 0) (sym are)) ∙ ap (entry_rows_to terms sub all) (sym (add-one i)),
      )

  -- the rows of an act's entries stand behind those of the acts before
  behind : (i n : ℕ) → i < n → (tail : List Row) × (entry_rows_to terms sub all n ≡ entry_rows_to terms sub all i ++ (entry_rows_of sub (i + 1) 0 (entries_at terms all i) ++ tail))
  behind i zero below = absurd (omega (arith, below))
  behind i (suc n) below = elim (last_or i n (omega (arith, below))) [
    | inl before ↦
        let it = behind i n before in
        let E = entry_rows_of sub (i + 1) 0 (entries_at terms all i) in
        let N = entry_rows_of sub (n + 1) 0 (entries_at terms all n) in
        (it.0 ++ N, ap (λ (l : List Row). l ++ N) it.1 ∙ append_assoc (entry_rows_to terms sub all i) (E ++ it.0) N ∙ ap (λ (l : List Row). entry_rows_to terms sub all i ++ l) (append_assoc E it.0 N))
    | inr last ↦ (
      [],
      subst (λ (k : ℕ). entry_rows_to terms sub all (suc n) ≡ entry_rows_to terms sub all k ++ (entry_rows_of sub (k + 1) 0 (entries_at terms all k) ++ [])) (sym last)
          (ap (λ (l : List Row). entry_rows_to terms sub all n ++ l) (sym (append-nil (entry_rows_of sub (n + 1) 0 (entries_at terms all n))))),
    )
  ]
    where
      last_or : (i n : ℕ) → i ≤ n → (i < n) ⊎ (i ≡ n)
      last_or zero zero h = inr refl
      last_or zero (suc n) h = inl (omega arith)
      last_or (suc i) zero h = absurd (omega (arith, h))
      last_or (suc i) (suc n) h = elim (last_or i n (omega (arith, h))) [ inl a ↦ inl (omega (arith, a)) | inr b ↦ inr (ap suc b) ]

  pub other_rows : (i at : ℕ) (es : List Entry) (rest : List Row) → i < length all → at ≤ length rows → rest ≡ take (length rows - at) (drop at rows) → take at rows ≡ entry_rows_to terms sub all i → entries_at terms all i ≡ es
      → take (length es) rest ≢ entry_rows_of sub (i + 1) 0 es → (tail : List Row) → rows ≢ entry_rows_to terms sub all (length all) ++ tail
  other_rows i at es rest below within is so_far are other tail same =
      let front = entry_rows_to terms sub all i in
      let E = entry_rows_of sub (i + 1) 0 (entries_at terms all i) in
      let it = behind i (length all) below in
      let whole : rows ≡ front ++ (E ++ (it.0 ++ tail)) =
      same ∙ ap (λ (l : List Row). l ++ tail) it.1 ∙ append_assoc front (E ++ it.0) tail ∙ ap (λ (l : List Row). front ++ l) (append_assoc E it.0 tail) in
      let n : at ≡ length front = sym (length_taken at rows within) ∙ ap length so_far in
      let left : drop at rows ≡ E ++ (it.0 ++ tail) = ap (drop at) whole ∙ drop_at_end at front (E ++ (it.0 ++ tail)) n in
      let many : length es ≡ length E = ap length (sym are) ∙ sym (as_many sub (i + 1) 0 (entries_at terms all i)) in
      other (ap (take (length es)) (rest_is at rest is ∙ left) ∙ take_at_end (length es) E (it.0 ++ tail) many ∙ ap (entry_rows_of sub (i + 1) 0) are)

  taken_along : (terms' : TermsView) (before : List Act) (i : ℕ) (act : Act) (rest : List Row) (count : ℕ) → terms' ≡ terms → before ≡ take i all → IsTaken terms' sub before act rest count → IsTaken terms sub (take i all) act rest count
  taken_along terms' before i act rest count t b it = subst (λ (l : List Act). IsTaken terms sub l act rest count) b (subst (λ (v : TermsView). IsTaken v sub before act rest count) t it)

  other_along : (terms' : TermsView) (before : List Act) (i : ℕ) (act : Act) (rest : List Row) → terms' ≡ terms → before ≡ take i all → IsOther terms' sub before act rest → IsOther terms sub (take i all) act rest
  other_along terms' before i act rest t b it = subst (λ (l : List Act). IsOther terms sub l act rest) b (subst (λ (v : TermsView). IsOther v sub before act rest) t it)

  pub page_next : (terms' : TermsView) (before : List Act) (i at count : ℕ) (act : Act) → i < length all → act ≡ get_or all i act → at ≤ length rows → take at rows ≡ entry_rows_to terms sub all i → terms' ≡ terms → before ≡ take i all
      → IsTaken terms' sub before act (take (length rows - at) (drop at rows)) count → (at + count ≤ length rows) × (take (at + count) rows ≡ entry_rows_to terms sub all (i + 1))
  page_next terms' before i at count act below is within so_far t b taken =
      let rest = take (length rows - at) (drop at rows) in
      let it = taken_along terms' before i act rest count t b taken in
      let are = entries_of_act terms all i act it.adds below is it.added in
      let place : length (take i all) + 1 ≡ i + 1 = ap (λ (n : ℕ). n + 1) (length_taken i all (omega (arith, below))) in
      let next = next_rows i at it.adds rest within refl so_far are (it.begins ∙ ap (λ (n : ℕ). entry_rows_of sub n 0 it.adds) place) in
      rw it.many next

  pub page_other : OneMoreAct → (terms' : TermsView) (before : List Act) (i at : ℕ) (act : Act) → i < length all → act ≡ get_or all i act → at ≤ length rows → take at rows ≡ entry_rows_to terms sub all i → terms' ≡ terms → before ≡ take i all
      → IsOther terms' sub before act (take (length rows - at) (drop at rows)) → acts terms all ≡ all → (tail : List Row) → rows ≢ entry_rows_to terms sub all (length all) ++ tail
  page_other one terms' before i at act below is within so_far t b other own tail same =
      let rest = take (length rows - at) (drop at rows) in
      elim (other_along terms' before i act rest t b other) [
        | inl old ↦ absurd (not_own one terms all i act below is old own)
        | inr it ↦
            let are = entries_of_act terms all i act it.0 below is it.1 in
            let place : i + 1 ≡ length (take i all) + 1 = ap (λ (n : ℕ). n + 1) (sym (length_taken i all (omega (arith, below)))) in
            absurd (other_rows i at it.0 rest below within refl so_far are (λ e. it.2 (e ∙ ap (λ (n : ℕ). entry_rows_of sub n 0 it.0) place)) tail same)
      ]

-- ---- pages, one after another

pub each_more : {X : Type 0} (P : X → Type 0) (xs : List X) (i : ℕ) (x : X) → i < length xs → x ≡ get_or xs i x → P x → AllByRecursion P (take i xs) → AllByRecursion P (take (i + 1) xs)
each_more P xs i x below is p all =
    subst (AllByRecursion P) (sym ((take_at_read xs i x below).1 ∙ ap (λ (y : _). take i xs ++ y ∷ []) (sym is))) (pushed (take i xs) all)
  where
    pushed : (ys : List _) → AllByRecursion P ys → AllByRecursion P (ys ++ x ∷ [])
    pushed [] h = (p, tt)
    pushed (y ∷ ys) h = (h.0, pushed ys h.1)

pub each_at : {X : Type 0} (P : X → Type 0) (xs : List X) (i : ℕ) (x : X) → i < length xs → x ≡ get_or xs i x → AllByRecursion P xs → P x
each_at P [] i x below is all = absurd (omega (arith, below))
each_at P (y ∷ xs) zero x below is all = subst P (sym is) all.0
each_at P (y ∷ xs) (suc i) x below is all = each_at P xs i x (omega (arith, below)) is all.1

pub each_end : {X : Type 0} (P : X → Type 0) (xs : List X) (n : ℕ) → length xs ≤ n → AllByRecursion P (take n xs) → AllByRecursion P xs
each_end P xs n end all = subst (AllByRecursion P) (lists.take_all n xs end) all

book_more : (terms : TermsView) (pages : List PageView) (page : PageView) → book_entry_rows terms (pages ++ page ∷ []) ≡ book_entry_rows terms pages ++ page_entry_rows terms page
book_more terms [] page = append-nil (page_entry_rows terms page)
book_more terms (first ∷ pages) page =
    ap (λ (l : List Row). page_entry_rows terms first ++ l) (book_more terms pages page) ∙ sym (append_assoc (page_entry_rows terms first) (book_entry_rows terms pages) (page_entry_rows terms page))

book_both : (terms : TermsView) (pages more : List PageView) → book_entry_rows terms (pages ++ more) ≡ book_entry_rows terms pages ++ book_entry_rows terms more
book_both terms [] more = refl
book_both terms (first ∷ pages) more =
    ap (λ (l : List Row). page_entry_rows terms first ++ l) (book_both terms pages more) ∙ sym (append_assoc (page_entry_rows terms first) (book_entry_rows terms pages) (book_entry_rows terms more))

module _ (terms : TermsView) (pages : List PageView) (rows : List Row) where
  next_page : (i : ℕ) (page : PageView) → i < length pages → page ≡ get_or pages i page → take (i + 1) pages ≡ take i pages ++ page ∷ []
  next_page i page below is = (take_at_read pages i page below).1 ∙ ap (λ (p : PageView). take i pages ++ p ∷ []) (sym is)

  left_at : (at : ℕ) → take (length rows - at) (drop at rows) ≡ drop at rows
  left_at at = lists.take_all (length rows - at) (drop at rows) (let l = lists.length-drop at rows in omega (arith, l))

  pub pages_next : (i at count : ℕ) (page : PageView) → i < length pages → page ≡ get_or pages i page → at ≤ length rows → take at rows ≡ book_entry_rows terms (take i pages)
      → count ≤ length (take (length rows - at) (drop at rows)) → take count (take (length rows - at) (drop at rows)) ≡ page_entry_rows terms page
      → (at + count ≤ length rows) × (take (at + count) rows ≡ book_entry_rows terms (take (i + 1) pages))
  pages_next i at count page below is within so_far few own =
      let d = lists.length-drop at rows in
      let e = ap length (left_at at) in (
        omega (arith, few, d, e, within),
        take_plus at count rows ∙ ap₂ (λ (a b : List Row). a ++ b) so_far (ap (take count) (sym (left_at at)) ∙ own) ∙ sym (book_more terms (take i pages) page) ∙ ap (book_entry_rows terms) (sym (next_page i page below is)),
      )

  pub tallies_next : (i : ℕ) (page : PageView) (tallies : List Tally) (tally : Tally) → i < length pages → page ≡ get_or pages i page → tallies ≡ map (tally_of terms) (take i pages) → tally ≡ tally_of terms page
      → tallies ++ tally ∷ [] ≡ map (tally_of terms) (take (i + 1) pages)
  tallies_next i page tallies tally below is so_far own =
      ap₂ (λ (l : List Tally) (t : Tally). l ++ t ∷ []) so_far own ∙ sym (map-append (tally_of terms) (take i pages) (page ∷ [])) ∙ ap (map (tally_of terms)) (sym (next_page i page below is))

  pub page_stands : (i at : ℕ) (page : PageView) → i < length pages → page ≡ get_or pages i page → at ≤ length rows → take at rows ≡ book_entry_rows terms (take i pages) → rows ≡ book_entry_rows terms pages
      → take (length rows - at) (drop at rows) ≡ page_entry_rows terms page ++ book_entry_rows terms (drop (i + 1) pages)
  page_stands i at page below is within so_far same =
      let front = book_entry_rows terms (take i pages) in
      let back = book_entry_rows terms (drop (i + 1) pages) in
      let parts : rows ≡ front ++ (page_entry_rows terms page ++ back) =
      same ∙ ap (book_entry_rows terms) (sym (split_at (i + 1) pages)) ∙ book_both terms (take (i + 1) pages) (drop (i + 1) pages)
      ∙ ap (λ (l : List PageView). book_entry_rows terms l ++ back) (next_page i page below is) ∙ ap (λ (l : List Row). l ++ back) (book_more terms (take i pages) page)
      ∙ append_assoc front (page_entry_rows terms page) back in
      let n : at ≡ length front = sym (length_taken at rows within) ∙ ap length so_far in
      left_at at ∙ ap (drop at) parts ∙ drop_at_end at front (page_entry_rows terms page ++ back) n

  pub pages_end : (i at : ℕ) → length pages ≤ i → at ≤ length rows → take at rows ≡ book_entry_rows terms (take i pages) → (at ≡ length rows → rows ≡ book_entry_rows terms pages) × (rows ≡ book_entry_rows terms pages → at ≡ length rows)
  pages_end i at end within so_far =
      let all : take at rows ≡ book_entry_rows terms pages = so_far ∙ ap (book_entry_rows terms) (lists.take_all i pages end) in
      (λ e. sym (lists.take_all at rows (omega (arith, e))) ∙ all, λ same. sym (length_taken at rows within) ∙ ap length (all ∙ sym same))

pub accounts_by : (terms : TermsView) (pages : List PageView) → account_rows_by pages (map (tally_of terms) pages) ≡ book_account_rows terms pages
accounts_by terms [] = refl
accounts_by terms (page ∷ pages) = ap (λ (l : List Row). account_row (sub_octets page.sub) (length page.acts) (tally_of terms page).funds ∷ l) (accounts_by terms pages)

many_by : (pages : List PageView) (tallies : List Tally) → length tallies ≡ length pages → length (account_rows_by pages tallies) ≡ length pages
many_by [] tallies e = refl
many_by (page ∷ pages) [] e = absurd (omega (arith, e))
many_by (page ∷ pages) (tally ∷ tallies) e = ap suc (many_by pages tallies (omega (arith, e)))

row_by : (pages : List PageView) (tallies : List Tally) (k : ℕ) (r : Row) (p : PageView) (t : Tally) → length tallies ≡ length pages → k < length pages
    → get_or (account_rows_by pages tallies) k r ≡ account_row (sub_octets (get_or pages k p).sub) (get_or tallies k t).acts (get_or tallies k t).funds
row_by [] tallies k r p t e below = absurd (omega (arith, below))
row_by (page ∷ pages) [] k r p t e below = absurd (omega (arith, e))
row_by (page ∷ pages) (tally ∷ tallies) zero r p t e below = refl
row_by (page ∷ pages) (tally ∷ tallies) (suc k) r p t e below = row_by pages tallies k r p t (omega (arith, e)) (omega (arith, below))

pub other_count : (accounts : List Row) (pages : List PageView) (tallies : List Tally) → length tallies ≡ length pages → length accounts ≢ length pages → accounts ≢ account_rows_by pages tallies
other_count accounts pages tallies e other same = other (ap length same ∙ many_by pages tallies e)

pub other_account : (accounts : List Row) (pages : List PageView) (tallies : List Tally) (k : ℕ) (r : Row) (p : PageView) (t : Tally) → length tallies ≡ length pages → k < length pages
    → get_or accounts k r ≢ account_row (sub_octets (get_or pages k p).sub) (get_or tallies k t).acts (get_or tallies k t).funds → accounts ≢ account_rows_by pages tallies
other_account accounts pages tallies k r p t e below other same = other (ap (λ (l : List Row). get_or l k r) same ∙ row_by pages tallies k r p t e below)

pub each_account : (accounts : List Row) (pages : List PageView) (tallies : List Tally) → length tallies ≡ length pages → length accounts ≡ length pages
    → ((k : ℕ) (r : Row) (p : PageView) (t : Tally) → k < length pages → get_or accounts k r ≡ account_row (sub_octets (get_or pages k p).sub) (get_or tallies k t).acts (get_or tallies k t).funds)
    → accounts ≡ account_rows_by pages tallies
each_account [] [] tallies e n at = refl
each_account (a ∷ accounts) [] tallies e n at = absurd (omega (arith, n))
each_account accounts (page ∷ pages) [] e n at = absurd (omega (arith, e))
each_account accounts (page ∷ pages) (tally ∷ tallies) e n at =
    same_at accounts (account_rows_by (page ∷ pages) (tally ∷ tallies)) (n ∙ sym (many_by (page ∷ pages) (tally ∷ tallies) e))
    (λ k r below. let low : k < length (page ∷ pages) = omega (arith, below, n) in at k r page tally low ∙ sym (row_by (page ∷ pages) (tally ∷ tallies) k r page tally e low))
