-- What is read of a log.
use Rattle.std.proofs.Common.{◌≡◌, List, [], ◌∷◌, refl, sym, ap, ◌∙◌, inl, inr}
use Rattle.std.proofs.lemmas.Bool.{cases_Bool}
use Rattle.dcc_act.specs.declared.act.Act.{Act}
use Rattle.dcc_tariff.specs.Terms.{TermsView}
use Rattle.dcc_act.specs.declared.sub.Sub.{Sub}
use Rattle.dcc_act.specs.Subs.{same_sub}
use Rattle.dcc_model.specs.Entries.{entries}
use Rattle.dcc_model.specs.Laws.{EntriesAddUp, NoActs}
use Rattle.dcc_store.specs.Books.{PageView, acts_in, IsBook}
use Rattle.dcc_store.specs.Contents.{IsContentOf, kept_by}
use Rattle.dcc_store.specs.Batches.{AdditionView}
use Rattle.dcc_store.specs.Memory.{MemoryView, content_of}
use Rattle.dcc_store.specs.inner.Rows.{IsLog, held_in, acts_at, pages_of}
use Rattle.dcc_store.proofs.Orders.{turned}
use Rattle.dcc_store.proofs.Sums.{kept_with}

-- the pages of rows hold the acts of the rows
pub held_pages : (rows : List (Sub × List Act)) (sub : Sub) → acts_in (pages_of rows) sub ≡ acts_at rows sub
held_pages [] sub = refl
held_pages (row ∷ rows) sub =
    elim (cases_Bool (same_sub row.0 sub)) [ inl here ↦ rw (turned sub row.0, here) refl | inr gone ↦ rw (turned sub row.0, gone) (held_pages rows sub) ]

-- an empty log
pub no_log : (terms : TermsView) → NoActs → EntriesAddUp → IsLog terms []
unfolding entries
no_log terms none add_up = record { own = λ sub. none terms; content = λ sub. ap (λ n. kept_with [] [] 0 n) (add_up terms []) }

-- the pages of sorted rows of a log hold the acts of the log
pub read_pages : (log : List AdditionView) (rows sorted : List (Sub × List Act)) (book : List PageView) → book ≡ pages_of sorted
    → ((sub : Sub) → acts_at sorted sub ≡ acts_at rows sub) → ((sub : Sub) → acts_at rows sub ≡ held_in log sub) → (sub : Sub) → acts_in book sub ≡ held_in log sub
read_pages log rows sorted book is same made sub = ap (λ (pages : List PageView). acts_in pages sub) is ∙ held_pages sorted sub ∙ same sub ∙ made sub

-- so they are a book, whose content the records keep
pub read_book : (old : MemoryView) (book : List PageView) → ((sub : Sub) → acts_in book sub ≡ held_in old.log sub) → IsLog old.terms old.log → IsBook old.terms (acts_in book)
read_book old book same is sub = rw (same sub) (is.own sub)

pub read_content : (old : MemoryView) (book : List PageView) → ((sub : Sub) → acts_in book sub ≡ held_in old.log sub) → IsLog old.terms old.log
    → IsContentOf old.terms (acts_in book) (content_of old)
read_content old book same is sub = is.content sub ∙ ap (kept_by old.terms) (sym (same sub))
