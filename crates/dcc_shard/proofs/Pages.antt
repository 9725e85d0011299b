-- Books made of pages, the last page first.
use Rattle.std.proofs.Common.{◌≡◌, ◌≢◌, ℕ, zero, suc, true, false, List, [], ◌∷◌, ◌++◌, length, map, take, drop, refl, sym, ap, subst, ◌∙◌, inl, inr, rules}
use Rattle.std.specs.Cmp.Rules.{comparing}
use Rattle.std.specs.List.{AllByRecursion}
use Rattle.std.specs.List.Sorted.{IsStrictlySortedBy}
use Rattle.std.specs.declared.cmp.Ordering.TheVariants.{Less}
use Rattle.std.specs.Ordering.{is_eq}
use Rattle.std.proofs.Math.Seq.{drop-append_seam, take-append_seam}
use Rattle.std.proofs.lemmas.Bool.{cases_Bool}
use Rattle.std.proofs.lemmas.List.{take-append-drop, append_assoc}
use Rattle.dcc_tariff.specs.Terms.{TermsView}
use Rattle.dcc_act.specs.declared.act.Act.{Act}
use Rattle.dcc_act.specs.declared.sub.Sub.{Sub}
use Rattle.dcc_act.specs.Subs.{same_sub, SameAreEqual}
use Rattle.dcc_model.specs.Outcomes.{acts}
use Rattle.dcc_model.specs.Laws.{NoActs}
use Rattle.dcc_store.specs.Books.{PageView, acts_in, IsBook, AreInOrder, sub_order}
use Rattle.dcc_shard.specs.Shards.{held_in}
use Rattle.dcc_shard.specs.inner.Books.{BooksView}
use Rattle.dcc_shard.specs.inner.Indexed.{IsPageOf}
use Rattle.dcc_shard.proofs.Subs.{same_sub-same}
use Rattle.dcc_shard.proofs.Ordered.{turned}

-- subscribers are one just where they compare equal
same_where_equal : (a b : Sub) → same_sub a b ≡ is_eq (sub_order a b)
same_where_equal = search (comparing, rules)

-- a subscriber that is before another isn't it
before_apart : (a b : Sub) → sub_order a b ≡ Less → same_sub b a ≡ false
before_apart a b less = turned b a ∙ same_where_equal a b ∙ ap is_eq less

-- a subscriber that is before each of these pages has none of them
none_behind : (pages : List PageView) (sub : Sub) → AllByRecursion (λ other. sub_order sub other ≡ Less) (map (λ (page : PageView). page.sub) pages) → acts_in pages sub ≡ []
none_behind [] sub below = refl
none_behind (page ∷ pages) sub below = rw (before_apart sub page.sub below.0) (none_behind pages sub below.1)

-- without its first page a book is a book
book_behind : SameAreEqual → NoActs → (terms : TermsView) (page : PageView) (pages : List PageView) → AreInOrder (page ∷ pages) → IsBook terms (acts_in (page ∷ pages)) → IsBook terms (acts_in pages)
unfolding IsStrictlySortedBy
book_behind same none terms page pages sorted book sub =
    elim (cases_Bool (same_sub page.sub sub)) [
      | inl t ↦
          let e : page.sub ≡ sub = (same page.sub sub).0 t in
          let empty : acts_in pages sub ≡ [] = ap (acts_in pages) (sym e) ∙ none_behind pages page.sub sorted.0 in
          rw empty (none terms)
      | inr f ↦
          let is : acts_in (page ∷ pages) sub ≡ acts_in pages sub = rw f refl in
          let P : List Act → Type 0 = λ xs. acts terms xs ≡ xs in
          subst P is (book sub)
    ]

sorted_behind : (page : PageView) (pages : List PageView) → AreInOrder (page ∷ pages) → AreInOrder pages
unfolding IsStrictlySortedBy
sorted_behind page pages sorted = sorted.1

-- the pages from one on are a book
pub book_from : SameAreEqual → NoActs → (terms : TermsView) (n : ℕ) (pages : List PageView) → AreInOrder pages → IsBook terms (acts_in pages) → IsBook terms (acts_in (drop n pages))
book_from same none terms zero pages sorted book = book
book_from same none terms (suc n) [] sorted book = book
book_from same none terms (suc n) (page ∷ pages) sorted book =
    book_from same none terms n pages (sorted_behind page pages sorted) (book_behind same none terms page pages sorted book)

-- the last page of those that are left, with the pages behind it
pub record IsSplit (all left : List PageView) (page : PageView) (behind : List PageView) : Type 0 where
  pub behind_is : drop (length left) all ≡ page ∷ behind
  pub left_is : left ≡ take (length left) all

pub split_last : (all taken left : List PageView) (page : PageView) → taken ≡ take (length taken) all → taken ≡ left ++ page ∷ [] → IsSplit all left page (drop (length taken) all)
split_last all taken left page is popped =
    let rest = drop (length taken) all in
    let whole : all ≡ left ++ (page ∷ rest) =
    sym (take-append-drop (length taken) all) ∙ ap (λ (xs : List PageView). xs ++ rest) (sym is ∙ popped) ∙ append_assoc left (page ∷ []) rest in
    record {
      behind_is = ap (λ (xs : List PageView). drop (length left) xs) whole ∙ drop-append_seam left (page ∷ rest);
      left_is = sym (ap (λ (xs : List PageView). take (length left) xs) whole ∙ take-append_seam left (page ∷ rest));
    }

-- the acts of the page that stands there are its subscriber's own
pub own_at : SameAreEqual → (terms : TermsView) (page : PageView) (pages : List PageView) → IsBook terms (acts_in (page ∷ pages)) → acts terms page.acts ≡ page.acts
own_at same terms page pages book =
    let is : acts_in (page ∷ pages) page.sub ≡ page.acts = rw (same_sub-same same page.sub) refl in
    let P : List Act → Type 0 = λ xs. acts terms xs ≡ xs in
    subst P is (book page.sub)

sorted_from : (n : ℕ) (pages : List PageView) → AreInOrder pages → AreInOrder (drop n pages)
sorted_from zero pages sorted = sorted
sorted_from (suc n) [] sorted = sorted
sorted_from (suc n) (page ∷ pages) sorted = sorted_from n pages (sorted_behind page pages sorted)

first_alone : (page : PageView) (pages : List PageView) → AreInOrder (page ∷ pages) → acts_in pages page.sub ≡ []
unfolding IsStrictlySortedBy
first_alone page pages sorted = none_behind pages page.sub sorted.0

-- of the subscriber of the last page nothing stands behind
pub none_held : (all taken left : List PageView) (page : PageView) → AreInOrder all → taken ≡ take (length taken) all → taken ≡ left ++ page ∷ []
    → acts_in (drop (length taken) all) page.sub ≡ []
none_held all taken left page sorted is popped =
    let split = split_last all taken left page is popped in
    first_alone page (drop (length taken) all) (subst AreInOrder split.behind_is (sorted_from (length left) all sorted))

-- one page more
pub record IsNextPage (all left : List PageView) (new : BooksView) : Type 0 where
  pub left_is : left ≡ take (length left) all
  pub held : (sub : Sub) → held_in new.rows sub ≡ acts_in (drop (length left) all) sub

-- what is held with the page that was added, before those behind it
held_before : SameAreEqual → (page : PageView) (pages : List PageView) (old new : BooksView) → ((other : Sub) → held_in old.rows other ≡ acts_in pages other) → IsPageOf old new page.sub page.acts
    → acts old.terms page.acts ≡ page.acts → (other : Sub) → held_in new.rows other ≡ acts_in (page ∷ pages) other
held_before same page pages old new held added own other =
    elim (cases_Bool (same_sub page.sub other)) [
      | inl t ↦
          let e : other ≡ page.sub = sym ((same page.sub other).0 t) in
          ap (held_in new.rows) e ∙ added.own ∙ own ∙ rw t refl
      | inr f ↦
          let apart : other ≢ page.sub = λ e. (let t : same_sub page.sub other ≡ true = (same page.sub other).1 (sym e) in absurd cc) in
          added.others other apart ∙ held other ∙ rw f refl
    ]

pub next_page : SameAreEqual → NoActs → (all taken left : List PageView) (page : PageView) (terms : TermsView) (old new : BooksView) (sub : Sub) (added : List Act) → AreInOrder all
    → IsBook terms (acts_in all) → taken ≡ take (length taken) all → taken ≡ left ++ page ∷ [] → ((other : Sub) → held_in old.rows other ≡ acts_in (drop (length taken) all) other)
    → sub ≡ page.sub → added ≡ page.acts → old.terms ≡ terms → IsPageOf old new sub added → IsNextPage all left new
next_page same none all taken left page terms old new sub added sorted book is popped held sub_is added_is terms_are page_is =
    let split = split_last all taken left page is popped in
    let P : List PageView → Type 0 = λ pages. IsBook terms (acts_in pages) in
    let here = subst P split.behind_is (book_from same none terms (length left) all sorted book) in
    let own = own_at same terms page (drop (length taken) all) here in
    let own_page : IsPageOf old new page.sub page.acts = subst (λ (s : Sub). IsPageOf old new s page.acts) sub_is (subst (IsPageOf old new sub) added_is page_is) in
    let own_acts : acts old.terms page.acts ≡ page.acts = ap (λ (t : TermsView). acts t page.acts) terms_are ∙ own in
    record {
      left_is = split.left_is;
      held = λ other. held_before same page (drop (length taken) all) old new held own_page own_acts other ∙ ap (λ (pages : List PageView). acts_in pages other) (sym split.behind_is);
    }
