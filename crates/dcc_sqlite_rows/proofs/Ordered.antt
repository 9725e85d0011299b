-- The pages of a book, by the rows of its accounts.
use Rattle.std.proofs.Common.{◌≡◌, ◌≢◌, inl, inr, ℕ, suc, ◌+◌, pos, List, [], ◌∷◌, length, map, slice_get, Some, refl, sym, ap, subst, ◌∙◌, arith}
use Rattle.std.specs.List.{AllByRecursion}
use Rattle.std.specs.List.Sorted.{IsStrictlySortedBy}
use Rattle.std.specs.declared.cmp.Ordering.TheVariants.{Less, Equal}
use Rattle.std.proofs.lemmas.Bool.{cases_Bool}
use Rattle.sqlite.specs.declared.types.Value.TheVariants.{Int, Blob}
use Rattle.sqlite.specs.Order.{Row, column, value_cmp}
use Rattle.dcc_tariff.specs.Terms.{TermsView}
use Rattle.dcc_act.specs.declared.act.Act.{Act}
use Rattle.dcc_act.specs.declared.sub.Sub.{Sub}
use Rattle.dcc_act.specs.Subs.{same_sub, SameAreEqual}
use Rattle.dcc_model.specs.Outcomes.{funds}
use Rattle.dcc_act_codec.specs.Limits.{IsAct}
use Rattle.dcc_act_codec.specs.Records.{record_of}
use Rattle.dcc_store.specs.Books.{Held, PageView, AreInOrder, acts_in, sub_order, IsBook}
use Rattle.dcc_sqlite_rows.specs.declared.line.Line.{Line}
use Rattle.dcc_sqlite_rows.specs.Rows.{sub_octets, act_row, entry_row, account_row}
use Rattle.dcc_sqlite_rows.specs.Pages.{IsSub, IsPage, IsOwn, entries_at, book_act_rows, book_entry_rows, book_account_rows}
use Rattle.dcc_sqlite_rows.specs.Stored.{Rows, HasRowOfNobody, IsDamaged, AreOfBook}
use Rattle.dcc_sqlite_rows.specs.Held.{AreJust, IsActRow, IsEntryRow, IsAccountRow}
use Rattle.dcc_sqlite_rows.specs.Ordered.{act_order, entry_order, account_order, AreHeld}
use Rattle.dcc_sqlite_rows.proofs.Groups.{octets_apart}
use Rattle.dcc_sqlite_rows.proofs.Held.{acts_held, entries_held, accounts_held, some_at, some_below}
use Rattle.dcc_sqlite_rows.proofs.Strict.{In, in_from, in_to, all_from, strict_from_sorted, same_strict, act_total, entry_total, account_total, octets_order, same_blob, same_number, then_equal, book_acts_strict, book_entries_strict, book_accounts_strict}

-- ---- rows of one key are one

one_number : (a b : ℕ) → value_cmp (Int (pos (a + 1))) (Int (pos (b + 1))) ≡ Equal → a ≡ b
one_number a b tied = let e = same_number (a + 1) (b + 1) tied in omega (arith, e)

one_act : (held : Held) (x y : Row) → IsActRow held x → IsActRow held y → act_order x y ≡ Equal → x ≡ y
one_act held x y a b tied =
    let first = subst (λ (r : Row). act_order r y ≡ Equal) a.4 tied in
    let both = then_equal _ _ (subst (λ (r : Row). act_order (act_row (sub_octets a.0) (a.1 + 1) (record_of a.2)) r ≡ Equal) b.4 first) in
    let subs : a.0 ≡ b.0 = octets_apart a.0 b.0 (same_blob (sub_octets a.0) (sub_octets b.0) both.0) in
    let places : a.1 ≡ b.1 = one_number a.1 b.1 both.1 in
    let got : slice_get (held a.0) a.1 ≡ Some b.2 = rw (subs, places) b.3 in
    let acts : a.2 ≡ b.2 = let e = sym a.3 ∙ got in cc in
    a.4 ∙ (λ k. act_row (sub_octets (subs k)) (places k + 1) (record_of (acts k))) ∙ sym b.4

one_entry : (terms : TermsView) (held : Held) (x y : Row) → IsEntryRow terms held x → IsEntryRow terms held y → entry_order x y ≡ Equal → x ≡ y
one_entry terms held x y a b tied =
    let first = subst (λ (r : Row). entry_order r y ≡ Equal) a.6 tied in
    let both = then_equal _ _ (subst (λ (r : Row). entry_order (entry_row (sub_octets a.0) (a.1 + 1) (a.2 + 1) a.3) r ≡ Equal) b.6 first) in
    let rest = then_equal _ _ both.1 in
    let subs : a.0 ≡ b.0 = octets_apart a.0 b.0 (same_blob (sub_octets a.0) (sub_octets b.0) both.0) in
    let places : a.1 ≡ b.1 = one_number a.1 b.1 rest.0 in
    let lines : a.2 ≡ b.2 = one_number a.2 b.2 rest.1 in
    let got : slice_get (entries_at terms (held a.0) a.1) a.2 ≡ Some b.3 = rw (subs, places, lines) b.5 in
    let entries : a.3 ≡ b.3 = let e = sym a.5 ∙ got in cc in
    a.6 ∙ (λ k. entry_row (sub_octets (subs k)) (places k + 1) (lines k + 1) (entries k)) ∙ sym b.6

one_account : (terms : TermsView) (held : Held) (x y : Row) → IsAccountRow terms held x → IsAccountRow terms held y → account_order x y ≡ Equal → x ≡ y
one_account terms held x y a b tied =
    let first = subst (λ (r : Row). account_order r y ≡ Equal) a.2 tied in
    let both = subst (λ (r : Row). account_order (account_row (sub_octets a.0) (length (held a.0)) (funds terms (held a.0))) r ≡ Equal) b.2 first in
    let subs : a.0 ≡ b.0 = octets_apart a.0 b.0 (same_blob (sub_octets a.0) (sub_octets b.0) both) in
    a.2 ∙ ap (λ (s : Sub). account_row (sub_octets s) (length (held s)) (funds terms (held s))) subs ∙ sym b.2

-- ---- the page of an account

sub_in : Row → Sub
sub_in (Blob (kind ∷ name) ∷ more) = record { kind = kind; name = name }
sub_in _ = record { kind = 0; name = [] }

module _ (terms : TermsView) (held : Held) where
  page_of : Row → PageView
  page_of row = record { sub = sub_in row; acts = held (sub_in row) }

  pages_of : List Row → List PageView
  pages_of [] = []
  pages_of (row ∷ rows) = page_of row ∷ pages_of rows

  abbrev Says : Row → Type 0
  Says row = IsAccountRow terms held row

  own_sub : (row : Row) (it : Says row) → sub_in row ≡ it.0
  unfolding sub_in
  own_sub row it = ap sub_in it.2

  own_blob : (row : Row) → Says row → column row 0 ≡ Blob (sub_octets (sub_in row))
  own_blob row it = ap (λ (r : Row). column r 0) it.2 ∙ ap (λ (s : Sub). Blob (sub_octets s)) (sym (own_sub row it))

  less_subs : (x y : Row) → Says x → Says y → account_order x y ≡ Less → sub_order (sub_in x) (sub_in y) ≡ Less
  less_subs x y a b less = sym (octets_order (sub_in x) (sub_in y)) ∙ (rw (own_blob x a, own_blob y b) at less)

  subs_above : (x : Row) (rows : List Row) → Says x → AllByRecursion Says rows → AllByRecursion (λ y. account_order x y ≡ Less) rows
      → AllByRecursion (λ s. sub_order (sub_in x) s ≡ Less) (map (λ (page : PageView). page.sub) (pages_of rows))
  unfolding pages_of page_of
  subs_above x [] a all less = tt
  subs_above x (y ∷ rows) a all less = (less_subs x y a all.0 less.0, subs_above x rows a all.1 less.1)

  in_order : (rows : List Row) → AllByRecursion Says rows → IsStrictlySortedBy account_order rows → AreInOrder (pages_of rows)
  unfolding pages_of page_of IsStrictlySortedBy
  in_order [] all sorted = tt
  in_order (row ∷ rows) all sorted = (subs_above row rows all.0 all.1 sorted.0, in_order rows all.1 sorted.1)

  fit_all : (xs : List Act) → ((i : ℕ) (act : Act) → slice_get xs i ≡ Some act → IsAct act) → AllByRecursion IsAct xs
  fit_all [] h = tt
  fit_all (x ∷ xs) h = (h 0 x refl, fit_all xs (λ i act got. h (suc i) act got))

  module _ (subs : (sub : Sub) → held sub ≢ [] → IsSub sub) (fits : (sub : Sub) (i : ℕ) (act : Act) → slice_get (held sub) i ≡ Some act → IsAct act) (book : IsBook terms held) where
    valid_page : (row : Row) → Says row → IsPage (page_of row)
    unfolding page_of
    valid_page row it =
        let some : held (sub_in row) ≢ [] = λ none. it.1 (ap held (sym (own_sub row it)) ∙ none) in
        record { is_of = subs (sub_in row) some; some = some; fit = fit_all (held (sub_in row)) (fits (sub_in row)) }

    valid_pages : (rows : List Row) → AllByRecursion Says rows → AllByRecursion IsPage (pages_of rows)
    unfolding pages_of
    valid_pages [] all = tt
    valid_pages (row ∷ rows) all = (valid_page row all.0, valid_pages rows all.1)

    own_pages : (rows : List Row) → AllByRecursion (IsOwn terms) (pages_of rows)
    unfolding pages_of page_of
    own_pages [] = tt
    own_pages (row ∷ rows) = (book (sub_in row), own_pages rows)

  empty_or : (xs : List Act) → (xs ≢ [] → ⊥) → xs ≡ []
  empty_or [] h = refl
  empty_or (x ∷ xs) h = absurd (h (λ e. absurd cc))

  acts_are : SameAreEqual → (rows : List Row) (sub : Sub) → (held sub ≢ [] → (row : Row) × In rows row × (sub_in row ≡ sub)) → acts_in (pages_of rows) sub ≡ held sub
  unfolding pages_of page_of
  acts_are same [] sub there = sym (empty_or (held sub) (λ some. absurd (there some).1))
  acts_are same (row ∷ rows) sub there = elim (cases_Bool (same_sub (sub_in row) sub)) [
    | inl one ↦ let e : sub_in row ≡ sub = (same (sub_in row) sub).0 one in rw one (ap held e)
    | inr apart ↦ rw apart (acts_are same rows sub (λ some.
        let it = there some in
        elim it.1 [
          | inl first ↦ absurd (let e = sym apart ∙ (same (sub_in row) sub).1 (ap sub_in (sym first) ∙ it.2) in cc)
          | inr later ↦ (it.0, later, it.2)
        ]))
  ]

-- ---- the rows of a book are those of its pages

module _ (same : SameAreEqual) (terms : TermsView) (held : Held) (rows : Rows) (h : AreHeld terms held rows) where
  says : AllByRecursion (IsAccountRow terms held) rows.accounts
  says = all_from (IsAccountRow terms held) rows.accounts (λ row there. h.accounts.only row (in_to rows.accounts row there))

  accounts_strict : IsStrictlySortedBy account_order rows.accounts
  accounts_strict = strict_from_sorted account_order account_total rows.accounts h.accounts_sorted h.accounts.once
      (λ x y a b tied. one_account terms held x y (h.accounts.only x (in_to rows.accounts x a)) (h.accounts.only y (in_to rows.accounts y b)) tied)

  acts_strict : IsStrictlySortedBy act_order rows.acts
  acts_strict = strict_from_sorted act_order act_total rows.acts h.acts_sorted h.acts.once
      (λ x y a b tied. one_act held x y (h.acts.only x (in_to rows.acts x a)) (h.acts.only y (in_to rows.acts y b)) tied)

  entries_strict : IsStrictlySortedBy entry_order rows.entries
  entries_strict = strict_from_sorted entry_order entry_total rows.entries h.entries_sorted h.entries.once
      (λ x y a b tied. one_entry terms held x y (h.entries.only x (in_to rows.entries x a)) (h.entries.only y (in_to rows.entries y b)) tied)

  abbrev pages : List PageView
  pages = pages_of terms held rows.accounts

  held_is : acts_in pages ≡ held
  held_is = λ k sub. acts_are terms held same rows.accounts sub (λ some.
      let row = account_row (sub_octets sub) (length (held sub)) (funds terms (held sub)) in
      let it : IsAccountRow terms held row = (sub, some, refl) in
      (row, in_from rows.accounts row (h.accounts.there row it), own_sub terms held row it)) k

  -- two tables in strict order, each with just these rows, are one
  one_table : (order : Row → Row → _) (xs ys : List Row) (P : Row → Type 0) → ((a b : List Row) → IsStrictlySortedBy order a → IsStrictlySortedBy order b → ((x : Row) → In a x → In b x) → ((x : Row) → In b x → In a x) → a ≡ b)
      → IsStrictlySortedBy order xs → IsStrictlySortedBy order ys → AreJust xs P → AreJust ys P → xs ≡ ys
  one_table order xs ys P same a b p q =
      same xs ys a b (λ x there. in_from ys x (q.there x (p.only x (in_to xs x there)))) (λ x there. in_from xs x (p.there x (q.only x (in_to ys x there))))

  ordered : AreInOrder pages
  ordered = in_order terms held rows.accounts says accounts_strict

  valid : AllByRecursion IsPage pages
  valid = valid_pages terms held h.subs h.fits h.own rows.accounts says

  pub of_pages : (all : List PageView) × AreOfBook terms all rows
  of_pages = (
    pages,
    record {
      ordered = ordered;
      valid = valid;
      own = own_pages terms held h.subs h.fits h.own rows.accounts;
      acts = one_table act_order rows.acts (book_act_rows pages) (IsActRow held) (same_strict act_order act_total) acts_strict (book_acts_strict pages ordered) h.acts
          (subst (λ (it : Held). AreJust (book_act_rows pages) (IsActRow it)) held_is (acts_held same pages ordered valid));
      entries = one_table entry_order rows.entries (book_entry_rows terms pages) (IsEntryRow terms held) (same_strict entry_order entry_total) entries_strict (book_entries_strict terms pages ordered) h.entries
          (subst (λ (it : Held). AreJust (book_entry_rows terms pages) (IsEntryRow terms it)) held_is (entries_held same terms pages ordered valid));
      accounts = one_table account_order rows.accounts (book_account_rows terms pages) (IsAccountRow terms held) (same_strict account_order account_total) accounts_strict (book_accounts_strict terms pages ordered) h.accounts
          (subst (λ (it : Held). AreJust (book_account_rows terms pages) (IsAccountRow terms it)) held_is (accounts_held same terms pages ordered valid));
    },
  )

-- ---- and none is damaged

pub of_somebody : (terms : TermsView) (held : Held) (rows : Rows) → ((sub : Sub) → held sub ≢ [] → IsSub sub) → AreJust rows.entries (IsEntryRow terms held) → AreJust rows.accounts (IsAccountRow terms held) → ¬ HasRowOfNobody rows
of_somebody terms held rows subs entries accounts (inl bad) =
    let it = entries.only bad.0 bad.1 in
    bad.2 (it.0, subs it.0 (some_below (held it.0) it.1 it.4), ap (λ (r : Row). column r 0) it.6)
of_somebody terms held rows subs entries accounts (inr bad) =
    let it = accounts.only bad.0 bad.1 in
    bad.2 (it.0, subs it.0 it.1, ap (λ (r : Row). column r 0) it.2)

pub not_damaged : (terms : TermsView) (held : Held) (rows : Rows) → AreHeld terms held rows → ¬ IsDamaged rows
not_damaged terms held rows h (inl bad) =
    let it = h.acts.only bad.0 bad.1 in
    let line : Line = record { sub = it.0; place = pos (it.1 + 1); act = it.2 } in
    bad.2 (line, h.subs it.0 (some_at (held it.0) it.1 it.2 it.3), h.fits it.0 it.1 it.2 it.3, it.4)
not_damaged terms held rows h (inr bad) = of_somebody terms held rows h.subs h.entries h.accounts bad
