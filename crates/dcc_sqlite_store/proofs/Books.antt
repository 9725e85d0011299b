-- A book in the tables, and one act more.
use Rattle.std.proofs.Common.{◌≡◌, ◌≢◌, ◌⊎◌, inl, inr, ℕ, zero, suc, ◌+◌, ◌<◌, ◌≤◌, ℤ, false, List, [], ◌∷◌, ◌++◌, length, take, drop, slice_get, Some, refl, sym, ap, ap₂, subst, ◌∙◌, arith}
use Rattle.std.specs.List.{Contains}
use Rattle.std.proofs.lemmas.Bool.{cases_Bool}
use Rattle.std.proofs.lemmas.List.{length-append}
use Rattle.std.proofs.lemmas.List.Elements.{Contains-push, Contains-push_cases, Contains-append_left, Contains-append_right, Contains-append_cases}
use Rattle.std.proofs.lemmas.List.Sorted.{IsPermutation-sym, Contains-permutation}
use Rattle.sqlite.specs.declared.types.Value.TheVariants.{Blob}
use Rattle.sqlite.specs.Order.{Row, column}
use Rattle.sqlite.specs.Tree.{Trees}
use Rattle.dcc_tariff.specs.Terms.{TermsView}
use Rattle.dcc_act.specs.declared.act.Act.{Act}
use Rattle.dcc_act.specs.declared.entry.Entry.{Entry}
use Rattle.dcc_act.specs.declared.sub.Sub.{Sub}
use Rattle.dcc_act.specs.Subs.{same_sub, SameAreEqual}
use Rattle.dcc_model.specs.Outcomes.{funds}
use Rattle.dcc_model.specs.Entries.{entries}
use Rattle.dcc_act_codec.specs.Limits.{IsAct}
use Rattle.dcc_act_codec.specs.Records.{record_of}
use Rattle.dcc_store.specs.Books.{Held, with_act, IsBook}
use Rattle.dcc_store.specs.Contents.{IsNext}
use Rattle.dcc_sqlite_rows.specs.Rows.{sub_octets, act_row, entry_row, entry_rows_of, account_row}
use Rattle.dcc_sqlite_rows.specs.Pages.{entries_at, IsSub}
use Rattle.dcc_sqlite_rows.specs.Held.{IsActRow, IsEntryRow, IsAccountRow}
use Rattle.dcc_sqlite_store.specs.Content.{HoldsBook}
use Rattle.dcc_sqlite_store.specs.inner.Reading.{HasActs}
use Rattle.dcc_sqlite_store.specs.inner.Trees.{act_rows, entry_rows, account_rows, AreApart, Appends}
use Rattle.dcc_sqlite_store.proofs.Apart.{apart_along, apart_push, apart_append, apart_nothing}

-- ---- places

get_before : {X : Type 0} (xs : List X) (y x : X) (i : ℕ) → slice_get xs i ≡ Some x → slice_get (xs ++ y ∷ []) i ≡ Some x
get_before [] y x i h = absurd cc
get_before (z ∷ xs) y x zero h = h
get_before (z ∷ xs) y x (suc i) h = get_before xs y x i h

get_last : {X : Type 0} (xs : List X) (y : X) → slice_get (xs ++ y ∷ []) (length xs) ≡ Some y
get_last [] y = refl
get_last (x ∷ xs) y = get_last xs y

get_cases : {X : Type 0} (xs : List X) (y x : X) (i : ℕ) → slice_get (xs ++ y ∷ []) i ≡ Some x → (slice_get xs i ≡ Some x) ⊎ ((i ≡ length xs) × (x ≡ y))
get_cases [] y x zero h = inr (refl, let e : y ≡ x = cc in sym e)
get_cases [] y x (suc i) h = absurd cc
get_cases (z ∷ xs) y x zero h = inl h
get_cases (z ∷ xs) y x (suc i) h = elim (get_cases xs y x i h) [ inl old ↦ inl old | inr last ↦ inr (ap suc last.0, last.1) ]

-- lists that agree at each place are one
same_places : {X : Type 0} (xs ys : List X) → ((i : ℕ) (x : X) → slice_get xs i ≡ Some x → slice_get ys i ≡ Some x) → ((i : ℕ) (y : X) → slice_get ys i ≡ Some y → slice_get xs i ≡ Some y) → xs ≡ ys
same_places [] [] there back = refl
same_places [] (y ∷ ys) there back = absurd (let e = back 0 y refl in cc)
same_places (x ∷ xs) [] there back = absurd (let e = there 0 x refl in cc)
same_places (x ∷ xs) (y ∷ ys) there back =
    let head : y ≡ x = let e = there 0 x refl in cc in
    let tail : xs ≡ ys = same_places xs ys (λ i a h. there (suc i) a h) (λ i a h. back (suc i) a h) in
    cc

take_before : {X : Type 0} (i : ℕ) (xs ys : List X) → i ≤ length xs → take i (xs ++ ys) ≡ take i xs
take_before zero xs ys h = refl
take_before (suc i) [] ys h = absurd (omega (arith, h))
take_before (suc i) (x ∷ xs) ys h = ap (λ (l : List _). x ∷ l) (take_before i xs ys (omega (arith, h)))

take_whole : {X : Type 0} (xs : List X) → take (length xs) xs ≡ xs
take_whole [] = refl
take_whole (x ∷ xs) = ap (λ (l : List _). x ∷ l) (take_whole xs)

drop_front : {X : Type 0} (xs ys : List X) → drop (length xs) (xs ++ ys) ≡ ys
drop_front [] ys = refl
drop_front (x ∷ xs) ys = drop_front xs ys

less_or : (i n : ℕ) → (i < n) ⊎ (n ≤ i)
less_or i zero = inr (omega arith)
less_or zero (suc n) = inl (omega arith)
less_or (suc i) (suc n) = elim (less_or i n) [ inl low ↦ inl (omega (arith, low)) | inr high ↦ inr (omega (arith, high)) ]

-- ---- the rows of an act's entries

rows_there : (sub : List ℕ) (place line : ℕ) (es : List Entry) (j : ℕ) (e : Entry) → slice_get es j ≡ Some e → Contains (entry_rows_of sub place line es) (entry_row sub place (line + j + 1) e)
rows_there sub place line [] j e h = absurd cc
rows_there sub place line (x ∷ es) zero e h = let same : x ≡ e = cc in (0, omega arith, ap₂ (λ (n : ℕ) (it : Entry). entry_row sub place n it) (omega arith) same)
rows_there sub place line (x ∷ es) (suc j) e h =
    let it = rows_there sub place (line + 1) es j e h in
    let at : entry_row sub place (line + 1 + j + 1) e ≡ entry_row sub place (line + suc j + 1) e = ap (λ (n : ℕ). entry_row sub place n e) (omega arith) in
    subst (Contains (entry_rows_of sub place line (x ∷ es))) at (Contains-append_right (entry_row sub place (line + 1) x ∷ []) (entry_rows_of sub place (line + 1) es) _ it)

single : (row x : Row) → Contains (x ∷ []) row → row ≡ x
single row x h = elim (Contains-push_cases [] x row h) [ inl none ↦ absurd (omega (arith, none.1)) | inr same ↦ sym same ]

rows_only : (sub : List ℕ) (place line : ℕ) (es : List Entry) (row : Row) → Contains (entry_rows_of sub place line es) row
    → (j : ℕ) × (e : Entry) × (slice_get es j ≡ Some e) × (row ≡ entry_row sub place (line + j + 1) e)
rows_only sub place line [] row h = absurd (omega (arith, h.1))
rows_only sub place line (x ∷ es) row h = elim (Contains-append_cases (entry_row sub place (line + 1) x ∷ []) (entry_rows_of sub place (line + 1) es) row h) [
  | inl first ↦ (0, x, refl, single row (entry_row sub place (line + 1) x) first ∙ ap (λ (n : ℕ). entry_row sub place n x) (omega arith))
  | inr later ↦ let it = rows_only sub place (line + 1) es row later in (suc it.0, it.1, it.2, it.3 ∙ ap (λ (n : ℕ). entry_row sub place n it.1) (omega arith))
]

all_there : (sub : List ℕ) (place : ℕ) (es : List Entry) (j : ℕ) (e : Entry) → slice_get es j ≡ Some e → Contains (entry_rows_of sub place 0 es) (entry_row sub place (j + 1) e)
all_there sub place es j e h =
    let at : entry_row sub place (0 + j + 1) e ≡ entry_row sub place (j + 1) e = ap (λ (n : ℕ). entry_row sub place n e) (omega arith) in
    subst (Contains (entry_rows_of sub place 0 es)) at (rows_there sub place 0 es j e h)

all_only : (sub : List ℕ) (place : ℕ) (es : List Entry) (row : Row) → Contains (entry_rows_of sub place 0 es) row → (j : ℕ) × (e : Entry) × (slice_get es j ≡ Some e) × (row ≡ entry_row sub place (j + 1) e)
all_only sub place es row h = let it = rows_only sub place 0 es row h in (it.0, it.1, it.2, it.3 ∙ ap (λ (n : ℕ). entry_row sub place n it.1) (omega arith))

-- no two entries of an act have one line
lines_apart : (sub : List ℕ) (place line : ℕ) (es : List Entry) → AreApart (entry_rows_of sub place line es)
lines_apart sub place line [] = apart_nothing [] refl
lines_apart sub place line (e ∷ es) =
    apart_append (entry_row sub place (line + 1) e ∷ []) (entry_rows_of sub place (line + 1) es) (λ i j d below within. absurd (omega (arith, below, within))) (lines_apart sub place (line + 1) es)
    (λ x y in_first in_later same.
    let it = rows_only sub place (line + 1) es y in_later in
    let is : entry_row sub place (line + 1) e ≡ entry_row sub place (line + 1 + it.0 + 1) it.1 = sym (single x (entry_row sub place (line + 1) e) in_first) ∙ same ∙ it.3 in
    let lines : line + 1 ≡ line + 1 + it.0 + 1 = cc in
    omega (arith, lines))

past_end : {X : Type 0} (xs : List X) (i : ℕ) (x : X) → slice_get xs i ≡ Some x → i ≡ length xs → ⊥
past_end [] i x h e = absurd cc
past_end (y ∷ xs) zero x h e = omega (arith, e)
past_end (y ∷ xs) (suc i) x h e = past_end xs i x h (omega (arith, e))

some_left : {X : Type 0} (xs : List X) (y : X) → xs ++ y ∷ [] ≢ []
some_left [] y h = absurd cc
some_left (x ∷ xs) y h = absurd cc

-- ---- subscribers

octets_apart : (a b : Sub) → sub_octets a ≡ sub_octets b → a ≡ b
octets_apart a b h =
    let kinds : a.kind ≡ b.kind = cc in
    let names : a.name ≡ b.name = cc in
    ap₂ (λ (k : ℕ) (n : List ℕ). let s : Sub = record { kind = k; name = n } in s) kinds names

-- ---- one act more

module _ (terms : TermsView) (same : SameAreEqual) (old new : Trees) (held : Held) (sub : Sub) (act : Act) (more : List Entry) (book : HoldsBook terms old held) (next : IsNext terms (held sub) act more) (fit : IsAct act) (valid : IsSub sub)
    (changed : Appends (sub_octets sub) (length (held sub) + 1) (record_of act) more (funds terms (held sub ++ act ∷ [])) old new) where
  abbrev now : Held
  now = with_act sub act held

  abbrev place : ℕ
  place = length (held sub)

  with_own : now sub ≡ held sub ++ act ∷ []
  with_own = rw ((same sub sub).1 refl) refl

  with_other : (other : Sub) → same_sub sub other ≡ false → now other ≡ held other
  with_other other apart = rw apart refl

  with_before : (s : Sub) (i : ℕ) (a : Act) → slice_get (held s) i ≡ Some a → slice_get (now s) i ≡ Some a
  with_before s i a h = elim (cases_Bool (same_sub sub s)) [ inl one ↦ rw one (get_before (held s) act a i h) | inr apart ↦ rw apart h ]

  with_cases : (s : Sub) (i : ℕ) (a : Act) → slice_get (now s) i ≡ Some a → (slice_get (held s) i ≡ Some a) ⊎ ((s ≡ sub) × (i ≡ place) × (a ≡ act))
  with_cases s i a h = elim (cases_Bool (same_sub sub s)) [
    | inl one ↦
        let e : sub ≡ s = (same sub s).0 one in
        elim (get_cases (held s) act a i (rw one at h)) [ inl was ↦ inl was | inr last ↦ inr (sym e, last.0 ∙ ap (λ (t : Sub). length (held t)) (sym e), last.1) ]
    | inr apart ↦ inl (rw apart at h)
  ]

  -- what the acts before add stays
  entries_stay : (i : ℕ) → i < place → entries_at terms (held sub ++ act ∷ []) i ≡ entries_at terms (held sub) i
  entries_stay i below =
      ap₂ (λ (a b : List Act). drop (length (entries terms a)) (entries terms b)) (take_before i (held sub) (act ∷ []) (omega (arith, below))) (take_before (i + 1) (held sub) (act ∷ []) (omega (arith, below)))

  entries_new : entries_at terms (held sub ++ act ∷ []) place ≡ more
  entries_new =
      let before : take place (held sub ++ act ∷ []) ≡ held sub = take_before place (held sub) (act ∷ []) (omega arith) ∙ take_whole (held sub) in
      let len : length (held sub ++ act ∷ []) ≡ place + 1 = length-append (held sub) (act ∷ []) in
      let whole : take (place + 1) (held sub ++ act ∷ []) ≡ held sub ++ act ∷ [] = ap (λ (n : ℕ). take n (held sub ++ act ∷ [])) (sym len) ∙ take_whole (held sub ++ act ∷ []) in
      ap₂ (λ (a b : List Act). drop (length (entries terms a)) (entries terms b)) before whole
      ∙ ap (λ (es : List Entry). drop (length (entries terms (held sub))) es) next.entries_are ∙ drop_front (entries terms (held sub)) more

  acts_there : (row : Row) → IsActRow now row → Contains (act_rows new) row
  acts_there row it = elim (with_cases it.0 it.1 it.2 it.3) [
    | inl was ↦ Contains-permutation _ (act_rows new) row changed.acts (Contains-append_left (act_rows old) _ row (book.acts.there row (it.0, it.1, it.2, was, it.4)))
    | inr last ↦ Contains-permutation _ (act_rows new) row changed.acts
        (rw (it.4, last.0, last.1, last.2) (Contains-push (act_rows old) (act_row (sub_octets sub) (place + 1) (record_of act))))
  ]

  acts_only : (row : Row) → Contains (act_rows new) row → IsActRow now row
  acts_only row h = elim (Contains-push_cases (act_rows old) (act_row (sub_octets sub) (place + 1) (record_of act)) row (Contains-permutation (act_rows new) _ row (IsPermutation-sym _ (act_rows new) changed.acts) h)) [
    | inl was ↦ let it = book.acts.only row was in (it.0, it.1, it.2, with_before it.0 it.1 it.2 it.3, it.4)
    | inr last ↦ (sub, place, act, rw with_own (get_last (held sub) act), sym last)
  ]

  abbrev new_rows : List Row
  new_rows = entry_rows_of (sub_octets sub) (place + 1) 0 more

  own_entry : (i j : ℕ) (e : Entry) (row : Row) → i < length (held sub ++ act ∷ []) → slice_get (entries_at terms (held sub ++ act ∷ []) i) j ≡ Some e → row ≡ entry_row (sub_octets sub) (i + 1) (j + 1) e
      → Contains (entry_rows old) row ⊎ Contains new_rows row
  own_entry i j e row below get is =
      let len : length (held sub ++ act ∷ []) ≡ place + 1 = length-append (held sub) (act ∷ []) in
      elim (less_or i place) [
        | inl low ↦
            inl (book.entries.there row (sub, i, j, e, low, rw (← entries_stay i low) get, is))
        | inr high ↦
            let at : i ≡ place = omega (arith, high, below, len) in
            let mine : slice_get more j ≡ Some e = ap (λ (es : List Entry). slice_get es j) (sym entries_new) ∙ ap (λ (n : ℕ). slice_get (entries_at terms (held sub ++ act ∷ []) n) j) (sym at) ∙ get in
            inr (rw (is, at) (all_there (sub_octets sub) (place + 1) more j e mine))
      ]

  entries_there : (row : Row) → IsEntryRow terms now row → Contains (entry_rows new) row
  entries_there row it =
      let s = it.0 in
      Contains-permutation (entry_rows old ++ new_rows) (entry_rows new) row changed.entries
      (elim (cases_Bool (same_sub sub s)) [
        | inl one ↦
            let e : sub ≡ s = (same sub s).0 one in
            let own : now s ≡ held sub ++ act ∷ [] = ap (λ (t : Sub). now t) (sym e) ∙ with_own in
            elim (own_entry it.1 it.2 it.3 row (rw own at it.4) (rw own at it.5) (rw (← e) at it.6)) [
              | inl was ↦ Contains-append_left (entry_rows old) new_rows row was
              | inr fresh ↦ Contains-append_right (entry_rows old) new_rows row fresh
            ]
        | inr apart ↦
            let other : now s ≡ held s = with_other s apart in
            Contains-append_left (entry_rows old) new_rows row (book.entries.there row (s, it.1, it.2, it.3, rw other at it.4, rw other at it.5, it.6))
      ])

  entries_only : (row : Row) → Contains (entry_rows new) row → IsEntryRow terms now row
  entries_only row h =
      let len : length (held sub ++ act ∷ []) ≡ place + 1 = length-append (held sub) (act ∷ []) in
      elim (Contains-append_cases (entry_rows old) new_rows row (Contains-permutation (entry_rows new) (entry_rows old ++ new_rows) row (IsPermutation-sym (entry_rows old ++ new_rows) (entry_rows new) changed.entries) h)) [
        | inl was ↦
            let it = book.entries.only row was in
            elim (cases_Bool (same_sub sub it.0)) [
              | inl one ↦
                  let e : sub ≡ it.0 = (same sub it.0).0 one in
                  let low : it.1 < place = rw (← e) at it.4 in
                  let get : slice_get (entries_at terms (held sub) it.1) it.2 ≡ Some it.3 = rw (← e) at it.5 in
                  (sub, it.1, it.2, it.3, rw (with_own, len) (omega (arith, low)), rw (with_own, entries_stay it.1 low) get, rw e it.6)
              | inr apart ↦
                  let other : now it.0 ≡ held it.0 = with_other it.0 apart in
                  (it.0, it.1, it.2, it.3, rw other it.4, rw other it.5, it.6)
            ]
        | inr fresh ↦
            let it = all_only (sub_octets sub) (place + 1) more row fresh in
            (sub, place, it.0, it.1, rw (with_own, len) (omega arith), rw (with_own, entries_new) it.2, it.3)
      ]

  sub_apart : (s : Sub) → same_sub sub s ≡ false → s ≢ sub
  sub_apart s apart e = let f = sym apart ∙ (same sub s).1 (sym e) in absurd cc

  blob_apart : (s : Sub) (row : Row) (acts : ℕ) (funds : ℤ) → same_sub sub s ≡ false → row ≡ account_row (sub_octets s) acts funds → column row 0 ≢ Blob (sub_octets sub)
  blob_apart s row acts funds apart is e =
      let blobs : Blob (sub_octets s) ≡ Blob (sub_octets sub) = ap (λ (r : Row). column r 0) (sym is) ∙ e in
      let octets : sub_octets s ≡ sub_octets sub = cc in
      sub_apart s apart (octets_apart s sub octets)

  accounts_there : (row : Row) → IsAccountRow terms now row → Contains (account_rows new) row
  accounts_there row it = elim (cases_Bool (same_sub sub it.0)) [
    | inl one ↦
        let e : sub ≡ it.0 = (same sub it.0).0 one in
        let len : length (held sub ++ act ∷ []) ≡ place + 1 = length-append (held sub) (act ∷ []) in
        rw (it.2, ← e, with_own, len) changed.there
    | inr apart ↦
        let other : now it.0 ≡ held it.0 = with_other it.0 apart in
        let was : row ≡ account_row (sub_octets it.0) (length (held it.0)) (funds terms (held it.0)) = rw other at it.2 in
        changed.stays row (book.accounts.there row (it.0, rw other at it.1, was)) (blob_apart it.0 row _ _ apart was)
  ]

  accounts_only : (row : Row) → Contains (account_rows new) row → IsAccountRow terms now row
  accounts_only row h = elim (changed.only row h) [
    | inl was ↦
        let it = book.accounts.only row was.0 in
        elim (cases_Bool (same_sub sub it.0)) [
          | inl one ↦ let e : sub ≡ it.0 = (same sub it.0).0 one in absurd (was.1 (ap (λ (r : Row). column r 0) it.2 ∙ ap (λ (t : Sub). Blob (sub_octets t)) (sym e)))
          | inr apart ↦ let other : now it.0 ≡ held it.0 = with_other it.0 apart in (it.0, rw other it.1, rw other it.2)
        ]
    | inr set ↦
        let len : length (held sub ++ act ∷ []) ≡ place + 1 = length-append (held sub) (act ∷ []) in
        (sub, rw with_own (some_left (held sub) act), rw (with_own, len) (sym set))
  ]

  acts_once : AreApart (act_rows new)
  acts_once =
      let row = act_row (sub_octets sub) (place + 1) (record_of act) in
      apart_along (act_rows old ++ row ∷ []) (act_rows new) changed.acts (apart_push (act_rows old) row book.acts.once (λ it there same.
      let was = book.acts.only it there in
      let is : act_row (sub_octets was.0) (was.1 + 1) (record_of was.2) ≡ row = sym was.4 ∙ same in
      let octets : sub_octets was.0 ≡ sub_octets sub = cc in
      let places : was.1 + 1 ≡ place + 1 = cc in
      let one : was.0 ≡ sub = octets_apart was.0 sub octets in
      past_end (held sub) was.1 was.2 (subst (λ (t : Sub). slice_get (held t) was.1 ≡ Some was.2) one was.3) (omega (arith, places))))

  entries_once : AreApart (entry_rows new)
  entries_once =
      apart_along (entry_rows old ++ new_rows) (entry_rows new) changed.entries (apart_append (entry_rows old) new_rows book.entries.once (lines_apart (sub_octets sub) (place + 1) 0 more) (λ x y in_old in_new same.
      let was = book.entries.only x in_old in
      let it = all_only (sub_octets sub) (place + 1) more y in_new in
      let is : entry_row (sub_octets was.0) (was.1 + 1) (was.2 + 1) was.3 ≡ entry_row (sub_octets sub) (place + 1) (it.0 + 1) it.1 = sym was.6 ∙ same ∙ it.3 in
      let octets : sub_octets was.0 ≡ sub_octets sub = cc in
      let places : was.1 + 1 ≡ place + 1 = cc in
      let one : was.0 ≡ sub = octets_apart was.0 sub octets in
      let below : was.1 < place = subst (λ (t : Sub). was.1 < length (held t)) one was.4 in
      omega (arith, places, below)))

  subs_now : (s : Sub) → now s ≢ [] → IsSub s
  subs_now s some = elim (cases_Bool (same_sub sub s)) [
    | inl one ↦ subst IsSub ((same sub s).0 one) valid
    | inr apart ↦ book.subs s (λ none. some (with_other s apart ∙ none))
  ]

  own_now : IsBook terms now
  own_now s = elim (cases_Bool (same_sub sub s)) [
    | inl one ↦ let e : sub ≡ s = (same sub s).0 one in rw (← e, with_own) next.own
    | inr apart ↦ rw (with_other s apart) (book.own s)
  ]

  pub book_grows : HoldsBook terms new now
  book_grows = record {
    own = own_now;
    subs = subs_now;
    fits = λ s i a h. elim (with_cases s i a h) [ inl was ↦ book.fits s i a was | inr last ↦ rw last.2 fit ];
    acts = record { there = acts_there; only = acts_only; once = acts_once };
    entries = record { there = entries_there; only = entries_only; once = entries_once };
    accounts = record { there = accounts_there; only = accounts_only; once = changed.once book.accounts.once };
  }

-- ---- tables hold one book alone

move : (b : Held) (s t : Sub) (i j : ℕ) (x y : Act) → s ≡ t → i ≡ j → x ≡ y → slice_get (b t) j ≡ Some y → slice_get (b s) i ≡ Some x
move b s t i j x y e f g h = rw (e, f, g) h

module _ (db : Trees) (differ : (a b : Act) → IsAct a → IsAct b → record_of a ≡ record_of b → a ≡ b) where
  half : (a b : Held) → HasActs db a → HasActs db b → (s : Sub) (i : ℕ) (x : Act) → slice_get (a s) i ≡ Some x → slice_get (b s) i ≡ Some x
  half a b ha hb s i x h =
      let row = act_row (sub_octets s) (i + 1) (record_of x) in
      let o = hb.1.only row (ha.1.there row (s, i, x, h, refl)) in
      let octets : sub_octets s ≡ sub_octets o.0 = let e = o.4 in cc in
      let places : i + 1 ≡ o.1 + 1 = let e = o.4 in cc in
      let bodies : record_of x ≡ record_of o.2 = let e = o.4 in cc in
      let subs : s ≡ o.0 = octets_apart s o.0 octets in
      let at : i ≡ o.1 = omega (arith, places) in
      let act : x ≡ o.2 = differ x o.2 (ha.0 s i x h) (hb.0 o.0 o.1 o.2 o.3) bodies in
      move b s o.0 i o.1 x o.2 subs at act o.3

  pub same_acts : (a b : Held) → HasActs db a → HasActs db b → (s : Sub) → a s ≡ b s
  same_acts a b ha hb s = same_places (a s) (b s) (half a b ha hb s) (half b a hb ha s)

pub acts_held : (terms : TermsView) (db : Trees) (held : Held) → HoldsBook terms db held → HasActs db held
acts_held terms db held it = (it.fits, it.acts)

pub one_book : (terms : TermsView) (db : Trees) (differ : (a b : Act) → IsAct a → IsAct b → record_of a ≡ record_of b → a ≡ b)
    → (a b : Held) → HoldsBook terms db a → HoldsBook terms db b → (s : Sub) → a s ≡ b s
one_book terms db differ a b ha hb = same_acts db differ a b (acts_held terms db a ha) (acts_held terms db b hb)
