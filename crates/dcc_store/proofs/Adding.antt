-- Acts added to rows, and to what is kept.
use Rattle.std.proofs.Common.{◌≡◌, ℕ, suc, ◌+◌, ◌<◌, cond, true, List, [], ◌∷◌, ◌++◌, length, drop, get_or, drop-cons, add-one, unwrap_or, Option, Some, refl, sym, subst, ap, ◌∙◌, inl, inr}
use Rattle.std.specs.Map.{lookup}
use Rattle.std.proofs.lemmas.Bool.{cases_Bool, and_parts}
use Rattle.dcc_tariff.specs.Terms.{TermsView}
use Rattle.dcc_act.specs.declared.act.Act.{Act}
use Rattle.dcc_act.specs.declared.sub.Sub.{Sub}
use Rattle.dcc_act.specs.Subs.{same_sub, SameAreEqual}
use Rattle.dcc_store.specs.Books.{Held, with_act, no_acts, IsBook}
use Rattle.dcc_store.specs.Contents.{Kept, Content, IsContentOf, IsNext}
use Rattle.dcc_store.specs.Batches.{AdditionView, subs_of, with_all, are_apart, acts_of, AreNext}
use Rattle.dcc_store.specs.Laws.{AccountsGrow, BooksGrowByBatches}
use Rattle.dcc_store.specs.Memory.{MemoryView, nothing, with_one, with_addition, with_additions, content_of}
use Rattle.dcc_store.specs.inner.Rows.{held_in, acts_at, IsLog}
use Rattle.dcc_store.proofs.Batches.{joined, rest_next, alike}

-- the acts of each subscriber once the row of one is written
pub written : (rows new : List (Sub × List Act)) (sub : Sub) (act : Act) (row : List Act) → SameAreEqual
    → ((other : Sub) → lookup (same_sub other) new ≡ cond (same_sub sub other) (Some row) (lookup (same_sub other) rows))
    → row ≡ acts_at rows sub ++ act ∷ []
    → (other : Sub) → acts_at new other ≡ with_act sub act (acts_at rows) other
written rows new sub act row same updates own other =
    let new_is : acts_at new other ≡ unwrap_or (cond (same_sub sub other) (Some row) (lookup (same_sub other) rows)) [] =
    ap (λ (found : Option (List Act)). unwrap_or found []) (updates other) in
    elim (cases_Bool (same_sub sub other)) [
      | inl one ↦
          let e : sub ≡ other = (same sub other).0 one in
          new_is ∙ rw one (own ∙ ap (λ (s : Sub). acts_at rows s ++ act ∷ []) e)
      | inr apart ↦ new_is ∙ rw apart refl
    ]

-- the content of a book with an act added is that of the book with the act
next_content : (terms : TermsView) (one : AdditionView) (held : Held) (content : Content) → SameAreEqual → AccountsGrow
    → IsNext terms (held one.sub) one.act one.entries → IsContentOf terms held content
    → IsContentOf terms (with_act one.sub one.act held) (with_addition one content)
next_content terms one held content same grows next is other =
    elim (cases_Bool (same_sub one.sub other)) [
      | inl here ↦
          let e : one.sub ≡ other = (same one.sub other).0 here in
          let own : IsNext terms (held other) one.act one.entries = let P : Sub → Type 0 = λ s. IsNext terms (held s) one.act one.entries in subst P e next in
          rw here (ap (with_one one.act one.entries) (is other) ∙ sym (grows terms (held other) one.act one.entries own))
      | inr gone ↦ rw gone (is other)
    ]

-- the same of a batch
pub content_grows : (terms : TermsView) (batch : List AdditionView) (held : Held) (content : Content) → SameAreEqual → AccountsGrow
    → are_apart (subs_of batch) ≡ true → AreNext terms batch held → IsContentOf terms held content
    → IsContentOf terms (with_all batch held) (with_additions batch content)
content_grows terms [] held content same grows apart next is = is
content_grows terms (one ∷ batch) held content same grows apart next is =
    content_grows terms batch (with_act one.sub one.act held) (with_addition one content) same grows (and_parts _ _ apart).1 (rest_next terms one batch held apart next.1)
    (next_content terms one held content same grows next.0 is)

-- additions behind additions
pub joined_content : (log batch : List AdditionView) (content : Content) → with_additions (log ++ batch) content ≡ with_additions batch (with_additions log content)
joined_content [] batch content = refl
joined_content (one ∷ log) batch content = joined_content log batch (with_addition one content)

-- what is next in a book is next in a book of the same acts
pub next_alike : (terms : TermsView) (batch : List AdditionView) (held other : Held) → ((sub : Sub) → held sub ≡ other sub) → AreNext terms batch held → AreNext terms batch other
next_alike terms [] held other same next = tt
next_alike terms (one ∷ batch) held other same next =
    (let P : List Act → Type 0 = λ acts. IsNext terms acts one.act one.entries in subst P (same one.sub) next.0, next_alike terms batch held other same next.1)

-- the acts of a content of a book are those of the book
pub acts_are : (terms : TermsView) (held : Held) (content : Content) → IsContentOf terms held content → (sub : Sub) → acts_of content sub ≡ held sub
acts_are terms held content is sub = ap (λ (kept : Kept). kept.acts) (is sub)

-- a log to which a batch is added is a log
pub still_log : (terms : TermsView) (log batch : List AdditionView) → SameAreEqual → AccountsGrow → BooksGrowByBatches → are_apart (subs_of batch) ≡ true
    → AreNext terms batch (acts_of (with_additions log nothing)) → IsLog terms log → IsLog terms (log ++ batch)
still_log terms log batch same grows books apart next is =
    let found : AreNext terms batch (held_in log) = next_alike terms batch (acts_of (with_additions log nothing)) (held_in log) (acts_are terms (held_in log) (with_additions log nothing) is.content) next in
    let held_is : held_in (log ++ batch) ≡ with_all batch (held_in log) = joined log batch no_acts in
    record {
      own = let P : Held → Type 0 = IsBook terms in subst P (sym held_is) (books terms batch (held_in log) apart is.own found);
      content =
          rw (held_is, joined_content log batch nothing) (content_grows terms batch (held_in log) (with_additions log nothing) same grows apart found is.content);
    }

-- the same of records, to whose log copies of a batch are added
pub appended : (old : MemoryView) (terms : TermsView) (log parts batch new : List AdditionView) → record { terms = terms; log = log } ≡ old → parts ≡ batch → new ≡ log ++ parts
    → SameAreEqual → AccountsGrow → BooksGrowByBatches → are_apart (subs_of batch) ≡ true → AreNext old.terms batch (acts_of (content_of old)) → IsLog terms log → IsLog terms new
appended old terms log parts batch new is copied grown same grows books apart next is_log =
    rw (grown, copied) (still_log terms log batch same grows books apart (rw (ap (λ (v : MemoryView). v.terms) is, ap (λ (v : MemoryView). v.log) is) next) is_log)

-- the rows of a log once the act of one more of its parts is added
pub next_row : (log : List AdditionView) (i : ℕ) (one : AdditionView) (sub : Sub) (act : Act) (before after : Held) → one ≡ get_or log i one → i < length log
    → sub ≡ one.sub → act ≡ one.act → ((other : Sub) → after other ≡ with_act sub act before other)
    → ((other : Sub) → with_all (drop i log) before other ≡ held_in log other) → (other : Sub) → with_all (drop (i + 1) log) after other ≡ held_in log other
next_row log i one sub act before after is below sub_is act_is added so_far other =
    let rest : drop i log ≡ one ∷ drop (i + 1) log = rw add-one (drop-cons log i one below ∙ ap (λ (x : AdditionView). x ∷ drop (suc i) log) (sym is)) in
    alike (drop (i + 1) log) after (with_act one.sub one.act before) other
    (added other ∙ ap (λ (s : Sub). with_act s act before other) sub_is ∙ ap (λ (a : Act). with_act one.sub a before other) act_is)
    ∙ ap (λ (parts : List AdditionView). with_all parts before other) (sym rest) ∙ so_far other
