-- Rows of acts by the version of their records: what is known of those of one version is known of those of the other.
use Rattle.std.proofs.Common.{◌≡◌, inl, inr, ℕ, zero, suc, ◌+◌, ◌<◌, pos, List, [], ◌∷◌, ◌++◌, length, map, get_or, slice_get, Some, refl, sym, ap, ap₂, subst, ◌∙◌, arith}
use Rattle.std.specs.List.{AllByRecursion}
use Rattle.std.specs.List.Sorted.{IsSorted}
use Rattle.std.specs.Ordering.{is_lt}
use Rattle.std.proofs.lemmas.List.{map-append, length-map}
use Rattle.sqlite.specs.Order.{Row}
use Rattle.dcc_tariff.specs.Terms.{TermsView}
use Rattle.dcc_act.specs.declared.act.Act.{Act}
use Rattle.dcc_act.specs.declared.sub.Sub.{Sub}
use Rattle.dcc_act.specs.Subs.{SameAreEqual}
use Rattle.dcc_act_codec.specs.Limits.{IsAct}
use Rattle.dcc_act_codec.specs.OldRecords.{old_record_of, IsOldAct}
use Rattle.dcc_store.specs.Books.{Held, PageView, AreInOrder, acts_in}
use Rattle.dcc_sqlite_rows.specs.declared.line.Line.{Line}
use Rattle.dcc_sqlite_rows.specs.declared.version.Version.{Version}
use Rattle.dcc_sqlite_rows.specs.declared.version.Version.TheVariants.{One, Two}
use Rattle.dcc_sqlite_rows.specs.Rows.{sub_octets, act_row}
use Rattle.dcc_sqlite_rows.specs.Pages.{IsPage, act_rows_from, book_act_rows}
use Rattle.dcc_sqlite_rows.specs.Stored.{Rows, line_row}
use Rattle.dcc_sqlite_rows.specs.Held.{AreJust, IsActRow}
use Rattle.dcc_sqlite_rows.specs.Ordered.{act_order, AreHeld}
use Rattle.dcc_sqlite_rows.specs.OldRows.{old_line_row, IsOldDamaged, IsOldPage, old_act_rows_from, old_book_act_rows, AreOfOldBook, IsOldActRow, AreOldHeld}
use Rattle.dcc_sqlite_rows.specs.inner.Versions.{body_of, HasBody, row_of}
use Rattle.dcc_sqlite_rows.proofs.Groups.{Differ, octets_apart}
use Rattle.dcc_sqlite_rows.proofs.Held.{acts_held, acts_fit, each_fits, some_at}
use Rattle.dcc_sqlite_rows.proofs.Ordered.{of_pages, of_somebody}
use Rattle.dcc_sqlite_rows.proofs.Strict.{In, in_from, in_to, in_all, all_from, all_append, all_weaker}

abbrev pub OldDiffer : Type 0
OldDiffer = (a b : Act) → IsOldAct a → IsOldAct b → old_record_of a ≡ old_record_of b → a ≡ b

-- records of either version that are read back are what was written
abbrev pub Reads : Type 0
Reads = (version : Version) (a b : Act) → HasBody version a → HasBody version b → body_of version a ≡ body_of version b → a ≡ b

pub reads_by : Differ → OldDiffer → Reads
reads_by new old One = old
reads_by new old Two = new

-- an act of version 1 is one of version 2
both_bodies : (version : Version) (act : Act) → IsOldAct act → HasBody version act
both_bodies One act fit = fit
both_bodies Two act fit = fit.is_act

abbrev pub AreFit : Version → List Line → Type 0
AreFit version = AllByRecursion (λ line. HasBody version line.act)

both_fit : (version : Version) (lines : List Line) → AreFit One lines → AreFit version lines
both_fit version = all_weaker (λ line. HasBody One line.act) (λ line. HasBody version line.act) (λ line. both_bodies version line.act)

-- ---- the lines of pages

abbrev line_at : Sub → ℕ → Act → Line
line_at sub place act = record { sub = sub; place = pos place; act = act }

abbrev lines_from : Sub → ℕ → List Act → List Line
lines_from sub before [] = []
lines_from sub before (act ∷ more) = line_at sub (before + 1) act ∷ lines_from sub (before + 1) more

abbrev lines_on : List PageView → List Line
lines_on [] = []
lines_on (page ∷ pages) = lines_from page.sub 0 page.acts ++ lines_on pages

page_rows : (sub : Sub) (before : ℕ) (acts : List Act) → act_rows_from (sub_octets sub) before acts ≡ map line_row (lines_from sub before acts)
page_rows sub before [] = refl
page_rows sub before (act ∷ more) = ap (λ (rows : List Row). line_row (line_at sub (before + 1) act) ∷ rows) (page_rows sub (before + 1) more)

book_rows : (pages : List PageView) → book_act_rows pages ≡ map line_row (lines_on pages)
book_rows [] = refl
book_rows (page ∷ pages) =
    ap₂ (λ (front rest : List Row). front ++ rest) (page_rows page.sub 0 page.acts) (book_rows pages) ∙ sym (map-append line_row (lines_from page.sub 0 page.acts) (lines_on pages))

old_page_rows : (sub : Sub) (before : ℕ) (acts : List Act) → old_act_rows_from (sub_octets sub) before acts ≡ map old_line_row (lines_from sub before acts)
old_page_rows sub before [] = refl
old_page_rows sub before (act ∷ more) = ap (λ (rows : List Row). old_line_row (line_at sub (before + 1) act) ∷ rows) (old_page_rows sub (before + 1) more)

old_book_rows : (pages : List PageView) → old_book_act_rows pages ≡ map old_line_row (lines_on pages)
old_book_rows [] = refl
old_book_rows (page ∷ pages) =
    ap₂ (λ (front rest : List Row). front ++ rest) (old_page_rows page.sub 0 page.acts) (old_book_rows pages)
    ∙ sym (map-append old_line_row (lines_from page.sub 0 page.acts) (lines_on pages))

module _ (version : Version) where
  lines_fit : (sub : Sub) (before : ℕ) (acts : List Act) → AllByRecursion (HasBody version) acts → AreFit version (lines_from sub before acts)
  lines_fit sub before [] all = tt
  lines_fit sub before (act ∷ more) all = (all.0, lines_fit sub (before + 1) more all.1)

  pages_fit : (pages : List PageView) → AllByRecursion (λ page. AllByRecursion (HasBody version) page.acts) pages → AreFit version (lines_on pages)
  pages_fit [] all = tt
  pages_fit (page ∷ pages) all =
      all_append (λ line. HasBody version line.act) (lines_from page.sub 0 page.acts) (lines_on pages) (lines_fit page.sub 0 page.acts all.0) (pages_fit pages all.1)

-- ---- pages of either layout

old_page : (page : PageView) → IsOldPage page → IsPage page
old_page page it = record { is_of = it.is_of; some = it.some; fit = all_weaker IsOldAct IsAct (λ act fit. fit.is_act) page.acts it.fit }

pub are_pages : (pages : List PageView) → AllByRecursion IsOldPage pages → AllByRecursion IsPage pages
are_pages = all_weaker IsOldPage IsPage old_page

each_old : (pages : List PageView) → AllByRecursion IsOldPage pages → AllByRecursion (λ page. AllByRecursion IsOldAct page.acts) pages
each_old = all_weaker IsOldPage (λ page. AllByRecursion IsOldAct page.acts) (λ page it. it.fit)

pub old_pages_fit : (pages : List PageView) → AllByRecursion IsOldPage pages → (sub : Sub) (i : ℕ) (act : Act) → slice_get (acts_in pages sub) i ≡ Some act → IsOldAct act
old_pages_fit pages valid = acts_fit IsOldAct pages (each_old pages valid)

split_all : {X : Type 0} (P : X → Type 0) (xs ys : List X) → AllByRecursion P (xs ++ ys) → AllByRecursion P xs × AllByRecursion P ys
split_all P [] ys all = (tt, all)
split_all P (x ∷ xs) ys all = let rest = split_all P xs ys all.1 in ((all.0, rest.0), rest.1)

acts_of_lines : (sub : Sub) (before : ℕ) (acts : List Act) → AreFit One (lines_from sub before acts) → AllByRecursion IsOldAct acts
acts_of_lines sub before [] fit = tt
acts_of_lines sub before (act ∷ more) fit = (fit.0, acts_of_lines sub (before + 1) more fit.1)

-- pages are of layout 1 if their lines are
old_by_lines : (pages : List PageView) → AllByRecursion IsPage pages → AreFit One (lines_on pages) → AllByRecursion IsOldPage pages
old_by_lines [] valid fit = tt
old_by_lines (page ∷ pages) valid fit =
    let both = split_all (λ line. HasBody One line.act) (lines_from page.sub 0 page.acts) (lines_on pages) fit in
    (record { is_of = valid.0.is_of; some = valid.0.some; fit = acts_of_lines page.sub 0 page.acts both.0 }, old_by_lines pages valid.1 both.1)

-- the line at a place of a list, whose row is at this place of the rows of either version
held_at : (lines : List Line) (i : ℕ) → i < length lines → (line : Line) × In lines line × ((version : Version) (d : Row) → get_or (map (row_of version) lines) i d ≡ row_of version line)
held_at [] i low = absurd (omega (arith, low))
held_at (x ∷ xs) zero low = (x, inl refl, λ version d. refl)
held_at (x ∷ xs) (suc i) low = let it = held_at xs i (omega (arith, low)) in (it.0, inr it.1, it.2)

map_in : (f : Line → Row) (lines : List Line) (line : Line) → In lines line → In (map f lines) (f line)
map_in f [] line h = absurd h
map_in f (x ∷ xs) line (inl same) = inl (ap f same)
map_in f (x ∷ xs) line (inr later) = inr (map_in f xs line later)

in_map : (f : Line → Row) (lines : List Line) (row : Row) → In (map f lines) row → (line : Line) × In lines line × (row ≡ f line)
in_map f [] row h = absurd h
in_map f (x ∷ xs) row (inl same) = (x, inl refl, same)
in_map f (x ∷ xs) row (inr later) = let it = in_map f xs row later in (it.0, inr it.1, it.2)

-- the row of an act that is held
abbrev IsHeldRow : Version → Held → Row → Type 0
IsHeldRow version held row = (sub : Sub) × (i : ℕ) × (act : Act) × (slice_get (held sub) i ≡ Some act) × (row ≡ act_row (sub_octets sub) (i + 1) (body_of version act))

module _ (reads : Reads) where
  one_line : (version : Version) (a b : Line) → HasBody version a.act → HasBody version b.act → row_of version a ≡ row_of version b → a ≡ b
  one_line version a b fit fits e =
      let octets : sub_octets a.sub ≡ sub_octets b.sub = cc in
      let places : a.place ≡ b.place = cc in
      let bodies : body_of version a.act ≡ body_of version b.act = cc in
      let subs : a.sub ≡ b.sub = octets_apart a.sub b.sub octets in
      let acts : a.act ≡ b.act = reads version a.act b.act fit fits bodies in
      let line : a ≡ b = λ k. record { sub = subs k; place = places k; act = acts k } in
      line

  same_lines : (version : Version) (xs ys : List Line) → AreFit version xs → AreFit version ys → map (row_of version) xs ≡ map (row_of version) ys → xs ≡ ys
  same_lines version [] [] fit fits e = refl
  same_lines version [] (y ∷ ys) fit fits e = absurd cc
  same_lines version (x ∷ xs) [] fit fits e = absurd cc
  same_lines version (x ∷ xs) (y ∷ ys) fit fits e =
      let head : row_of version x ≡ row_of version y = cc in
      let tail : map (row_of version) xs ≡ map (row_of version) ys = cc in
      ap₂ (λ (l : Line) (ls : List Line). l ∷ ls) (one_line version x y fit.0 fits.0 head) (same_lines version xs ys fit.1 fits.1 tail)

  pub there : (lines : List Line) (pages : List PageView) → AreFit One lines → AllByRecursion IsPage pages → map line_row lines ≡ book_act_rows pages → AllByRecursion IsOldPage pages × (map old_line_row lines ≡ old_book_act_rows pages)
  there lines pages fit valid e =
      let same : lines ≡ lines_on pages = same_lines Two lines (lines_on pages) (both_fit Two lines fit) (pages_fit Two pages (each_fits pages valid)) (e ∙ book_rows pages) in
      (old_by_lines pages valid (subst (AreFit One) same fit), ap (map old_line_row) same ∙ sym (old_book_rows pages))

  pub back : (lines : List Line) (pages : List PageView) → AreFit One lines → AllByRecursion IsOldPage pages → map old_line_row lines ≡ old_book_act_rows pages → AllByRecursion IsPage pages × (map line_row lines ≡ book_act_rows pages)
  back lines pages fit valid e =
      let same : lines ≡ lines_on pages = same_lines One lines (lines_on pages) fit (pages_fit One pages (each_old pages valid)) (e ∙ old_book_rows pages) in
      (are_pages pages valid, ap (map line_row) same ∙ sym (book_rows pages))

  -- the rows of one version, and of the other
  module _ (from to : Version) (held : Held) (fits : (sub : Sub) (i : ℕ) (act : Act) → slice_get (held sub) i ≡ Some act → IsOldAct act) (lines : List Line) (fit : AreFit One lines) where
    at_line : (version : Version) (line : Line) → In lines line → HasBody version line.act
    at_line version line there = both_bodies version line.act (in_all (λ l. IsOldAct l.act) lines line fit there)

    -- a line whose row is that of an act that is held
    is_held : (version : Version) (line : Line) → In lines line → (sub : Sub) (i : ℕ) (act : Act) → slice_get (held sub) i ≡ Some act → row_of version line ≡ act_row (sub_octets sub) (i + 1) (body_of version act)
        → line ≡ line_at sub (i + 1) act
    is_held version line there sub i act got e = one_line version line (line_at sub (i + 1) act) (at_line version line there) (both_bodies version act (fits sub i act got)) e

    turned_there : AreJust (map (row_of from) lines) (IsHeldRow from held) → (row : Row) → IsHeldRow to held row → In (map (row_of to) lines) row
    turned_there it row h =
        let line = line_at h.0 (h.1 + 1) h.2 in
        let was = in_map (row_of from) lines (row_of from line) (in_from (map (row_of from) lines) (row_of from line) (it.there (row_of from line) (h.0, h.1, h.2, h.3, refl))) in
        let same : was.0 ≡ line = is_held from was.0 was.1 h.0 h.1 h.2 h.3 (sym was.2) in
        subst (In (map (row_of to) lines)) (ap (row_of to) same ∙ sym h.4) (map_in (row_of to) lines was.0 was.1)

    turned_only : AreJust (map (row_of from) lines) (IsHeldRow from held) → (row : Row) → In (map (row_of to) lines) row → IsHeldRow to held row
    turned_only it row h =
        let is = in_map (row_of to) lines row h in
        let was = it.only (row_of from is.0) (in_to (map (row_of from) lines) (row_of from is.0) (map_in (row_of from) lines is.0 is.1)) in
        let same : is.0 ≡ line_at was.0 (was.1 + 1) was.2 = is_held from is.0 is.1 was.0 was.1 was.2 was.3 was.4 in
        (was.0, was.1, was.2, was.3, is.2 ∙ ap (row_of to) same)

    pub turned : AreJust (map (row_of from) lines) (IsHeldRow from held) → AreJust (map (row_of to) lines) (IsHeldRow to held)
    turned it = record {
      there = λ row h. in_to (map (row_of to) lines) row (turned_there it row h);
      only = λ row h. turned_only it row (in_from (map (row_of to) lines) row h);
      once = λ i j d below within same.
          let n = length-map lines (row_of from) in
          let m = length-map lines (row_of to) in
          let a = held_at lines i (omega (arith, below, within, m)) in
          let b = held_at lines j (omega (arith, within, m)) in
          let one : a.0 ≡ b.0 = one_line to a.0 b.0 (at_line to a.0 a.1) (at_line to b.0 b.1) (sym (a.2 to d) ∙ same ∙ b.2 to d) in
          it.once i j d below (omega (arith, within, n, m)) (a.2 from d ∙ ap (row_of from) one ∙ sym (b.2 from d));
    }

    -- the order of rows looks at no body
    pub turned_sorted : IsSorted act_order (map (row_of from) lines) → IsSorted act_order (map (row_of to) lines)
    turned_sorted sorted k d low within =
        let n = length-map lines (row_of from) in
        let m = length-map lines (row_of to) in
        let a = held_at lines (k + 1) (omega (arith, within, m)) in
        let b = held_at lines k (omega (arith, within, m)) in
        let less = λ (x y : Row). is_lt (act_order x y) in
        ap₂ less (a.2 to d) (b.2 to d) ∙ sym (ap₂ less (a.2 from d) (b.2 from d)) ∙ sorted k d low (omega (arith, within, n, m))

  -- ---- the laws

  pub old_acts_held : SameAreEqual → (pages : List PageView) → AreInOrder pages → AllByRecursion IsOldPage pages → AreJust (old_book_act_rows pages) (IsOldActRow (acts_in pages))
  old_acts_held same pages sorted valid =
      let new = subst (λ (rows : List Row). AreJust rows (IsActRow (acts_in pages))) (book_rows pages) (acts_held same pages sorted (are_pages pages valid)) in
      subst (λ (rows : List Row). AreJust rows (IsOldActRow (acts_in pages))) (sym (old_book_rows pages))
      (turned Two One (acts_in pages) (old_pages_fit pages valid) (lines_on pages) (pages_fit One pages (each_old pages valid)) new)

  -- the lines that rows of acts say
  lines_said : (held : Held) → ((sub : Sub) (i : ℕ) (act : Act) → slice_get (held sub) i ≡ Some act → IsOldAct act) → (rows : List Row) → AllByRecursion (IsOldActRow held) rows
      → (lines : List Line) × AreFit One lines × (rows ≡ map old_line_row lines)
  lines_said held fits [] all = ([], tt, refl)
  lines_said held fits (row ∷ rows) all =
      let it = all.0 in
      let rest = lines_said held fits rows all.1 in
      (line_at it.0 (it.1 + 1) it.2 ∷ rest.0, (fits it.0 it.1 it.2 it.3, rest.1), ap₂ (λ (r : Row) (rs : List Row). r ∷ rs) it.4 rest.2)

  pub of_old_pages : SameAreEqual → (terms : TermsView) (held : Held) (rows : Rows) → AreOldHeld terms held rows → (pages : List PageView) × AreOfOldBook terms pages rows
  of_old_pages same terms held rows h =
      let said = lines_said held h.fits rows.acts (all_from (IsOldActRow held) rows.acts (λ row here. h.acts.only row (in_to rows.acts row here))) in
      let lines = said.0 in
      let acts = subst (λ (all : List Row). AreJust all (IsOldActRow held)) said.2 h.acts in
      let sorted = subst (IsSorted act_order) said.2 h.acts_sorted in
      let new : Rows = record { acts = map line_row lines; entries = rows.entries; accounts = rows.accounts } in
      let are : AreHeld terms held new = record {
        own = h.own;
        subs = h.subs;
        fits = λ sub i act got. let fit = h.fits sub i act got in fit.is_act;
        acts = turned One Two held h.fits lines said.1 acts;
        entries = h.entries;
        accounts = h.accounts;
        acts_sorted = turned_sorted One Two held h.fits lines said.1 sorted;
        entries_sorted = h.entries_sorted;
        accounts_sorted = h.accounts_sorted;
      } in
      let found = of_pages same terms held new are in
      let book = found.1 in
      let old = there lines found.0 said.1 book.valid book.acts in
      (found.0, record { ordered = book.ordered; valid = old.0; own = book.own; acts = said.2 ∙ old.1; entries = book.entries; accounts = book.accounts })

pub old_not_damaged : (terms : TermsView) (held : Held) (rows : Rows) → AreOldHeld terms held rows → ¬ IsOldDamaged rows
old_not_damaged terms held rows h (inl bad) =
    let it = h.acts.only bad.0 bad.1 in
    bad.2 (line_at it.0 (it.1 + 1) it.2, h.subs it.0 (some_at (held it.0) it.1 it.2 it.3), h.fits it.0 it.1 it.2 it.3, it.4)
old_not_damaged terms held rows h (inr bad) = of_somebody terms held rows h.subs h.entries h.accounts bad
