-- Lines in groups, and the pages whose rows they are.
use Rattle.std.proofs.Common.{◌≡◌, ◌≢◌, inl, inr, ℕ, suc, ◌+◌, ℤ, pos, Bool, true, false, ◌&&◌, ◌↔◌, All, List, [], ◌∷◌, ◌++◌, length, map, Option, Some, None, IfSome, refl, sym, ap, ap₂, subst, ◌∙◌, arith, append_assoc, append-nil, length-append, rules}
use Rattle.std.specs.Ordering.{is_eq}
use Rattle.std.specs.declared.cmp.Ordering.TheVariants.{Less}
use Rattle.std.specs.Cmp.Rules.{comparing}
use Rattle.std.specs.List.{AllByRecursion}
use Rattle.std.specs.List.Sorted.{IsStrictlySortedBy}
use Rattle.std.proofs.lemmas.Bool.{cases_Bool, and_parts, and_from}
use Rattle.std.proofs.lemmas.List.{map-append}
use Rattle.sqlite.specs.declared.types.Value.TheVariants.{Int, Blob}
use Rattle.sqlite.specs.Order.{Row}
use Rattle.dcc_act.specs.declared.act.Act.{Act}
use Rattle.dcc_act.specs.declared.sub.Sub.{Sub}
use Rattle.dcc_act.specs.Subs.{same_sub, SameAreEqual}
use Rattle.dcc_act_codec.specs.Limits.{IsAct}
use Rattle.dcc_act_codec.specs.Records.{record_of}
use Rattle.dcc_store.specs.Books.{PageView, AreInOrder, sub_order}
use Rattle.dcc_sqlite_rows.specs.declared.line.Line.{Line}
use Rattle.dcc_sqlite_rows.specs.Rows.{sub_octets, act_row}
use Rattle.dcc_sqlite_rows.specs.Pages.{IsSub, IsPage, act_rows_from, page_act_rows, book_act_rows}
use Rattle.dcc_sqlite_rows.specs.Stored.{line_row}
use Rattle.dcc_sqlite_rows.specs.inner.Groups.{alone, put_behind, before_it}
use Rattle.dcc_sqlite_rows.proofs.Lists.{last_of}

-- records that are read back are what was written
abbrev pub Differ : Type 0
Differ = (a b : Act) → IsAct a → IsAct b → record_of a ≡ record_of b → a ≡ b

pub octets_apart : (a b : Sub) → sub_octets a ≡ sub_octets b → a ≡ b
octets_apart a b h =
    let kinds : a.kind ≡ b.kind = cc in
    let names : a.name ≡ b.name = cc in
    ap₂ (λ (k : ℕ) (n : List ℕ). let s : Sub = record { kind = k; name = n } in s) kinds names

-- ---- one act more, of the last page or of another

with_one : PageView → Act → PageView
with_one page act = record { sub = page.sub; acts = page.acts ++ act ∷ [] }

pub behind_same : (pages : List PageView) (page : PageView) (sub : Sub) (act : Act) → same_sub page.sub sub ≡ true
    → put_behind sub act (pages ++ page ∷ []) ≡ pages ++ record { sub = page.sub; acts = page.acts ++ act ∷ [] } ∷ []
behind_same [] page sub act one = rw one refl
behind_same (x ∷ []) page sub act one = ap (λ (l : List PageView). x ∷ l) (behind_same [] page sub act one)
behind_same (x ∷ y ∷ pages) page sub act one = ap (λ (l : List PageView). x ∷ l) (behind_same (y ∷ pages) page sub act one)

pub behind_other : (pages : List PageView) (page : PageView) (sub : Sub) (act : Act) → same_sub page.sub sub ≡ false
    → put_behind sub act (pages ++ page ∷ []) ≡ (pages ++ page ∷ []) ++ alone sub act ∷ []
behind_other [] page sub act apart = rw apart refl
behind_other (x ∷ []) page sub act apart = ap (λ (l : List PageView). x ∷ l) (behind_other [] page sub act apart)
behind_other (x ∷ y ∷ pages) page sub act apart = ap (λ (l : List PageView). x ∷ l) (behind_other (y ∷ pages) page sub act apart)

pub before_same : (pages : List PageView) (page : PageView) (sub : Sub) → same_sub page.sub sub ≡ true → before_it sub (pages ++ page ∷ []) ≡ length page.acts
before_same [] page sub one = rw one refl
before_same (x ∷ []) page sub one = before_same [] page sub one
before_same (x ∷ y ∷ pages) page sub one = before_same (y ∷ pages) page sub one

pub before_other : (pages : List PageView) (page : PageView) (sub : Sub) → same_sub page.sub sub ≡ false → before_it sub (pages ++ page ∷ []) ≡ 0
before_other [] page sub apart = rw apart refl
before_other (x ∷ []) page sub apart = before_other [] page sub apart
before_other (x ∷ y ∷ pages) page sub apart = before_other (y ∷ pages) page sub apart

-- ---- its row

acts_more : (sub : List ℕ) (before : ℕ) (xs : List Act) (act : Act) → act_rows_from sub before (xs ++ act ∷ []) ≡ act_rows_from sub before xs ++ act_row sub (before + length xs + 1) (record_of act) ∷ []
acts_more sub before [] act = ap (λ (n : ℕ). act_row sub n (record_of act) ∷ []) (omega arith)
acts_more sub before (x ∷ xs) act =
    ap (λ (l : List Row). act_row sub (before + 1) (record_of x) ∷ l)
    (acts_more sub (before + 1) xs act ∙ ap (λ (n : ℕ). act_rows_from sub (before + 1) xs ++ act_row sub n (record_of act) ∷ []) (omega arith))

pub row_more : SameAreEqual → (sub : Sub) (act : Act) (pages : List PageView)
    → book_act_rows (put_behind sub act pages) ≡ book_act_rows pages ++ act_row (sub_octets sub) (before_it sub pages + 1) (record_of act) ∷ []
row_more same sub act [] = refl
row_more same sub act (page ∷ []) = elim (cases_Bool (same_sub page.sub sub)) [
  | inl one ↦
      let e : page.sub ≡ sub = (same page.sub sub).0 one in
      rw (one, append-nil (act_rows_from (sub_octets page.sub) 0 (page.acts ++ act ∷ [])), append-nil (act_rows_from (sub_octets page.sub) 0 page.acts), ← e) (acts_more (sub_octets page.sub) 0 page.acts act ∙ ap (λ (n : ℕ). act_rows_from (sub_octets page.sub) 0 page.acts ++ act_row (sub_octets page.sub) n (record_of act) ∷ []) (omega arith))
  | inr apart ↦ rw (apart, append-nil (page_act_rows page)) refl
]
row_more same sub act (page ∷ next ∷ pages) =
    ap (λ (l : List Row). page_act_rows page ++ l) (row_more same sub act (next ∷ pages))
    ∙ sym (append_assoc (page_act_rows page) (book_act_rows (next ∷ pages)) (act_row (sub_octets sub) (before_it sub (next ∷ pages) + 1) (record_of act) ∷ []))

-- ---- pages are pages

some_left : (xs : List Act) (act : Act) → xs ++ act ∷ [] ≢ []
some_left [] act h = absurd cc
some_left (x ∷ xs) act h = absurd cc

all_more : {X : Type 0} (P : X → Type 0) (xs : List X) (x : X) → AllByRecursion P xs → P x → AllByRecursion P (xs ++ x ∷ [])
all_more P [] x all h = (h, tt)
all_more P (y ∷ xs) x all h = (all.0, all_more P xs x all.1 h)

pub page_more : (sub : Sub) (act : Act) (pages : List PageView) → IsSub sub → IsAct act → AllByRecursion IsPage pages → AllByRecursion IsPage (put_behind sub act pages)
page_more sub act [] is fits all = (record { is_of = is; some = some_left [] act; fit = (fits, tt) }, tt)
page_more sub act (page ∷ []) is fits all = elim (cases_Bool (same_sub page.sub sub)) [
  | inl one ↦ rw one ((record { is_of = all.0.is_of; some = some_left page.acts act; fit = all_more IsAct page.acts act all.0.fit fits }), tt)
  | inr apart ↦ rw apart (all.0, (record { is_of = is; some = some_left [] act; fit = (fits, tt) }, tt))
]
page_more sub act (page ∷ next ∷ pages) is fits all = (all.0, page_more sub act (next ∷ pages) is fits all.1)

-- ---- all lines

abbrev pub grouped : List PageView → List Line → List PageView
grouped pages [] = pages
grouped pages (line ∷ lines) = grouped (put_behind line.sub line.act pages) lines

pub grouped_more : (pages : List PageView) (lines : List Line) (line : Line) → grouped pages (lines ++ line ∷ []) ≡ put_behind line.sub line.act (grouped pages lines)
grouped_more pages [] line = refl
grouped_more pages (first ∷ lines) line = grouped_more (put_behind first.sub first.act pages) lines line

-- the last page is another's
abbrev pub IsFresh : Sub → List PageView → Type 0
IsFresh sub [] = Unit {0}
IsFresh sub (page ∷ []) = same_sub page.sub sub ≡ false
IsFresh sub (page ∷ next ∷ pages) = IsFresh sub (next ∷ pages)

fresh_behind : (pages : List PageView) (page : PageView) (sub : Sub) → same_sub page.sub sub ≡ false → IsFresh sub (pages ++ page ∷ [])
fresh_behind [] page sub apart = apart
fresh_behind (x ∷ []) page sub apart = fresh_behind [] page sub apart
fresh_behind (x ∷ y ∷ pages) page sub apart = fresh_behind (y ∷ pages) page sub apart

put_fresh : (pages : List PageView) (sub : Sub) (act : Act) → IsFresh sub pages → put_behind sub act pages ≡ pages ++ alone sub act ∷ []
put_fresh [] sub act fresh = refl
put_fresh (page ∷ []) sub act fresh = rw fresh refl
put_fresh (page ∷ next ∷ pages) sub act fresh = ap (λ (l : List PageView). page ∷ l) (put_fresh (next ∷ pages) sub act fresh)

-- each page is another's than the one before it
abbrev pub AreApart : Sub → List PageView → Type 0
AreApart sub [] = Unit {0}
AreApart sub (page ∷ pages) = (same_sub sub page.sub ≡ false) × AreApart page.sub pages

same_where_equal : (a b : Sub) → same_sub a b ≡ is_eq (sub_order a b)
same_where_equal = search (comparing, rules)

apart_less : (a b : Sub) → sub_order a b ≡ Less → same_sub a b ≡ false
apart_less a b less = same_where_equal a b ∙ ap is_eq less

apart_in_order : (page : PageView) (pages : List PageView) → AreInOrder (page ∷ pages) → AreApart page.sub pages
unfolding IsStrictlySortedBy
apart_in_order page [] sorted = tt
apart_in_order page (next ∷ pages) sorted = (apart_less page.sub next.sub sorted.0.0, apart_in_order next pages sorted.1)

-- a line of a row of an act
module _ (differ : Differ) where
  line_is : (line : Line) (sub : Sub) (place : ℕ) (act : Act) → IsAct line.act → IsAct act → line_row line ≡ act_row (sub_octets sub) place (record_of act) → (line.sub ≡ sub) × (line.act ≡ act)
  line_is line sub place act fit fits e =
      let octets : sub_octets line.sub ≡ sub_octets sub = cc in
      let bodies : record_of line.act ≡ record_of act = cc in
      (octets_apart line.sub sub octets, differ line.act act fit fits bodies)

  abbrev pub AreFit : List Line → Type 0
  AreFit = AllByRecursion (λ line. IsAct line.act)

  -- the rest of a page, and then what comes behind it
  rest_of_page : SameAreEqual → (done : List PageView) (sub : Sub) (before after : List Act) (rows : List Row) (lines : List Line) → AreFit lines → AllByRecursion IsAct after
      → map line_row lines ≡ act_rows_from (sub_octets sub) (length before) after ++ rows
      → (rest : List Line) × AreFit rest × (map line_row rest ≡ rows) × (grouped (done ++ record { sub = sub; acts = before } ∷ []) lines ≡ grouped (done ++ record { sub = sub; acts = before ++ after } ∷ []) rest)
  rest_of_page same done sub before [] rows lines fit fits e =
      (lines, fit, e, ap (λ (xs : List Act). grouped (done ++ record { sub = sub; acts = xs } ∷ []) lines) (sym (append-nil before)))
  rest_of_page same done sub before (act ∷ after) rows [] fit fits e = absurd cc
  rest_of_page same done sub before (act ∷ after) rows (line ∷ lines) fit fits e =
      let head : line_row line ≡ act_row (sub_octets sub) (length before + 1) (record_of act) = cc in
      let tail : map line_row lines ≡ act_rows_from (sub_octets sub) (length before + 1) after ++ rows = cc in
      let is = line_is line sub (length before + 1) act fit.0 fits.0 head in
      let len : length before + 1 ≡ length (before ++ act ∷ []) = sym (length-append before (act ∷ [])) in
      let next = rest_of_page same done sub (before ++ act ∷ []) after rows lines fit.1 fits.1 (tail ∙ ap (λ (n : ℕ). act_rows_from (sub_octets sub) n after ++ rows) len) in
      let own : same_sub sub line.sub ≡ true = (same sub line.sub).1 (sym is.0) in
      let put : put_behind line.sub line.act (done ++ record { sub = sub; acts = before } ∷ []) ≡ done ++ record { sub = sub; acts = before ++ act ∷ [] } ∷ [] =
      behind_same done (record { sub = sub; acts = before }) line.sub line.act own ∙ ap (λ (a : Act). done ++ record { sub = sub; acts = before ++ a ∷ [] } ∷ []) is.1 in
      let ends : (before ++ act ∷ []) ++ after ≡ before ++ act ∷ after = append_assoc before (act ∷ []) after in (
        next.0,
        next.1,
        next.2,
        ap (λ (pages : List PageView). grouped pages lines) put ∙ next.3 ∙ ap (λ (xs : List Act). grouped (done ++ record { sub = sub; acts = xs } ∷ []) next.0) ends,
      )

  pages_again : SameAreEqual → (pages done : List PageView) (lines : List Line) → AreFit lines → AllByRecursion IsPage pages
      → ((page : PageView) (more : List PageView) → pages ≡ page ∷ more → IsFresh page.sub done × AreApart page.sub more)
      → map line_row lines ≡ book_act_rows pages → grouped done lines ≡ done ++ pages
  pages_again same [] done [] fit valid fresh e = sym (append-nil done)
  pages_again same [] done (line ∷ lines) fit valid fresh e = absurd cc
  pages_again same (page ∷ pages) done lines fit valid fresh e =
      by (λ rest f r. pages_again same pages (done ++ page ∷ []) rest f valid.1
      (λ next more eq. let ready = fresh page pages refl in (fresh_behind done page next.sub (let a = subst (AreApart page.sub) eq ready.1 in a.0), let a = subst (AreApart page.sub) eq ready.1 in a.1)) r)
      page.acts refl lines fit e
    where
      by : ((rest : List Line) → AreFit rest → map line_row rest ≡ book_act_rows pages → grouped (done ++ page ∷ []) rest ≡ (done ++ page ∷ []) ++ pages)
          → (acts : List Act) → acts ≡ page.acts → (ls : List Line) → AreFit ls → map line_row ls ≡ book_act_rows (page ∷ pages) → grouped done ls ≡ done ++ page ∷ pages
      by later [] none ls f r = absurd (valid.0.some (sym none))
      by later (act ∷ after) is [] f r = absurd (let s : [] ≡ act_rows_from (sub_octets page.sub) 0 (act ∷ after) ++ book_act_rows pages = r ∙ ap (λ (xs : List Act). act_rows_from (sub_octets page.sub) 0 xs ++ book_act_rows pages) (sym is) in cc)
      by later (act ∷ after) is (line ∷ ls) f r =
          let s : map line_row (line ∷ ls) ≡ act_rows_from (sub_octets page.sub) 0 (act ∷ after) ++ book_act_rows pages = r ∙ ap (λ (xs : List Act). act_rows_from (sub_octets page.sub) 0 xs ++ book_act_rows pages) (sym is) in
          let fits : AllByRecursion IsAct (act ∷ after) = subst (AllByRecursion IsAct) (sym is) valid.0.fit in
          let at_first : 0 + 1 ≡ 1 = omega arith in
          let head : line_row line ≡ act_row (sub_octets page.sub) (0 + 1) (record_of act) = cc in
          let tail : map line_row ls ≡ act_rows_from (sub_octets page.sub) (0 + 1) after ++ book_act_rows pages = cc in
          let it = line_is line page.sub (0 + 1) act f.0 fits.0 head in
          let ready = fresh page pages refl in
          let put : put_behind line.sub line.act done ≡ done ++ alone page.sub act ∷ [] =
          ap₂ (λ (t : Sub) (a : Act). put_behind t a done) it.0 it.1 ∙ put_fresh done page.sub act ready.0 in
          let rest = rest_of_page same done page.sub (act ∷ []) after (book_act_rows pages) ls f.1 fits.1 (tail ∙ ap (λ (n : ℕ). act_rows_from (sub_octets page.sub) n after ++ book_act_rows pages) at_first) in
          let whole : record { sub = page.sub; acts = act ∷ after } ≡ page = ap (λ (xs : List Act). let p : PageView = record { sub = page.sub; acts = xs } in p) is in
          ap (λ (ps : List PageView). grouped ps ls) put ∙ rest.3 ∙ ap (λ (p : PageView). grouped (done ++ p ∷ []) rest.0) whole
          ∙ later rest.0 rest.1 rest.2 ∙ append_assoc done (page ∷ []) pages

  -- pages whose rows the lines are, are what the lines are grouped to
  pub same_pages : SameAreEqual → (pages : List PageView) (lines : List Line) → AreFit lines → AllByRecursion IsPage pages → AreInOrder pages → map line_row lines ≡ book_act_rows pages → grouped [] lines ≡ pages
  same_pages same pages lines fit valid sorted e = pages_again same pages [] lines fit valid (λ page more eq. (tt, apart_in_order page more (subst AreInOrder eq sorted))) e

-- ---- one line more

pub open_all : {X : Type 0} (P : X → Type 0) (xs : List X) → All P xs → AllByRecursion P xs
open_all P [] all = tt
open_all P (x ∷ xs) all = (all 0 x (omega arith), open_all P xs (λ i d below. all (suc i) d (omega (arith, below))))

stands_so : (line : Line) (place : ℕ) → line_row line ≡ act_row (sub_octets line.sub) place (record_of line.act) → line.place ≡ pos place
stands_so line place e = let t : line.place ≡ pos place = cc in t

pub fits_more : SameAreEqual → (lines : List Line) (line : Line) (pages : List PageView) (fits stands : Bool)
    → (fits ≡ true ↔ map line_row lines ≡ book_act_rows pages) → (stands ≡ true ↔ line.place ≡ pos (before_it line.sub pages + 1))
    → ((fits && stands) ≡ true ↔ map line_row (lines ++ line ∷ []) ≡ book_act_rows (put_behind line.sub line.act pages))
fits_more same lines line pages fits stands so_far next =
    let row = act_row (sub_octets line.sub) (before_it line.sub pages + 1) (record_of line.act) in
    let front = map line_row lines in
    let lefts : map line_row (lines ++ line ∷ []) ≡ front ++ line_row line ∷ [] = map-append line_row lines (line ∷ []) in
    let rights : book_act_rows (put_behind line.sub line.act pages) ≡ book_act_rows pages ++ row ∷ [] = row_more same line.sub line.act pages in
    rw (lefts, rights) (
      λ both.
          let parts = and_parts fits stands both in
          let place : line_row line ≡ row = ap (λ (n : ℤ). Blob (sub_octets line.sub) ∷ Int n ∷ Blob (record_of line.act) ∷ []) (next.0 parts.1) in
          ap₂ (λ (xs : List Row) (r : Row). xs ++ r ∷ []) (so_far.0 parts.0) place,
      λ same_rows.
          let parts = last_of front (book_act_rows pages) (line_row line) row same_rows in
          and_from fits stands (so_far.1 parts.0) (next.1 (stands_so line (before_it line.sub pages + 1) parts.1)),
    )

pub grouped_next : (lines : List Line) (line : Line) (pages : List PageView) → pages ≡ grouped [] lines → put_behind line.sub line.act pages ≡ grouped [] (lines ++ line ∷ [])
grouped_next lines line pages so_far = ap (put_behind line.sub line.act) so_far ∙ sym (grouped_more [] lines line)

-- of items that all have a property, the one behind some of them has it
one_of : {X : Type 0} (P : X → Type 0) (front rest : List X) (x : X) → AllByRecursion P (front ++ x ∷ rest) → P x
one_of P [] rest x all = all.0
one_of P (y ∷ front) rest x all = one_of P front rest x all.1

pub next_valid : (lines front rest : List Line) (line : Line) (pages : List PageView) → front ++ line ∷ rest ≡ lines → All (λ l. IsSub l.sub) lines → All (λ l. IsAct l.act) lines
    → AllByRecursion IsPage pages → AllByRecursion IsPage (put_behind line.sub line.act pages)
next_valid lines front rest line pages whole subs fit valid =
    page_more line.sub line.act pages
    (one_of (λ (l : Line). IsSub l.sub) front rest line (subst (λ (ls : List Line). AllByRecursion (λ (l : Line). IsSub l.sub) ls) (sym whole) (open_all (λ (l : Line). IsSub l.sub) lines subs)))
    (one_of (λ (l : Line). IsAct l.act) front rest line (subst (λ (ls : List Line). AllByRecursion (λ (l : Line). IsAct l.act) ls) (sym whole) (open_all (λ (l : Line). IsAct l.act) lines fit))) valid

-- what is grouped is the only book that the lines can be of
pub only_book : Differ → SameAreEqual → (lines : List Line) (found pages : List PageView) → All (λ l. IsAct l.act) lines → found ≡ grouped [] lines
    → AllByRecursion IsPage pages → AreInOrder pages → map line_row lines ≡ book_act_rows pages → found ≡ pages
only_book differ same lines found pages fit is valid sorted rows =
    is ∙ same_pages differ same pages lines (open_all (λ (l : Line). IsAct l.act) lines fit) valid sorted rows

-- so a book that is found is the only one
pub found_only : Differ → SameAreEqual → (lines : List Line) (pages : List PageView) (found : Option (List PageView)) → All (λ l. IsAct l.act) lines
    → pages ≡ grouped [] lines → IfSome found (λ book. book ≡ pages)
    → IfSome found (λ book. (others : List PageView) → AreInOrder others → AllByRecursion IsPage others → map line_row lines ≡ book_act_rows others → others ≡ book)
found_only differ same lines pages None fit is value = tt
found_only differ same lines pages (Some book) fit is value = λ others sorted valid rows. sym (value ∙ only_book differ same lines pages others fit is valid sorted rows)
