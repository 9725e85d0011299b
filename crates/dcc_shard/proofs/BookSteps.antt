-- The books after one act of one subscriber.
use Rattle.std.proofs.Common.{◌≡◌, ◌≢◌, Bool, true, false, if◌then◌else◌, List, [], ◌∷◌, ◌++◌, Some, None, ◌<◌, refl, sym, ap, subst, ◌∙◌}
use Rattle.dcc_tariff.specs.Terms.{TermsView}
use Rattle.dcc_act.specs.declared.act.Act.{Act}
use Rattle.dcc_act.specs.declared.sub.Sub.{Sub}
use Rattle.dcc_act.specs.Subs.{SameAreEqual}
use Rattle.dcc_account.specs.declared.account.Account.{Account}
use Rattle.dcc_account.specs.Prepared.{StepView, IsPrepared}
use Rattle.dcc_model.specs.Outcomes.{acts, after, place, is_new}
use Rattle.dcc_model.specs.Entries.{entries}
use Rattle.dcc_model.specs.Laws.{ActsAreActs, OneMoreAct}
use Rattle.dcc_shard.specs.Shards.{account_in, held_in}
use Rattle.dcc_shard.specs.inner.Books.{BooksView, AreBooks, IsStepOfBooks}
use Rattle.dcc_shard.specs.inner.Pending.{step_of, IsPending}
use Rattle.dcc_shard.specs.declared.pending.Pending.{Pending}
use Rattle.dcc_shard.specs.declared.pending.Pending.TheVariants.{Known, First}
use Rattle.dcc_shard.proofs.BookRows.{Rows, acts_held, IsWritten, moves_where_written, held_own, held_others, books_moved}

-- the account that was found has the terms, and the acts that are held
pub record Found (rows : Rows) (terms : TermsView) (sub : Sub) (account : Account) : Type 0 where
  pub terms_are : account.terms ≡ terms
  pub acts_are : account.acts ≡ held_in rows sub

pub found_in : (rows : Rows) (terms : TermsView) (sub : Sub) (account : Account) → AreBooks rows terms → account_in rows sub ≡ Some account → Found rows terms sub account
found_in rows terms sub account books is = record { terms_are = books.terms_are sub account is; acts_are = sym (ap acts_held is) }

-- of a subscriber without an account nothing is held
pub found_none : (rows : Rows) (terms : TermsView) (sub : Sub) (account : Account) → account_in rows sub ≡ None → account.terms ≡ terms → account.acts ≡ [] → Found rows terms sub account
found_none rows terms sub account none terms_are empty = record { terms_are = terms_are; acts_are = empty ∙ sym (ap acts_held none) }

-- what an account found says of one more act is what is said of what is held
pub next_found : {X : Type 0} (f : TermsView → List Act → X) (rows : Rows) (terms : TermsView) (sub : Sub) (account : Account) → Found rows terms sub account
    → f account.terms account.acts ≡ f terms (held_in rows sub)
next_found f rows terms sub account found = ap (λ (t : TermsView). f t account.acts) found.terms_are ∙ ap (λ (xs : List Act). f terms xs) found.acts_are

-- with acts there are acts after one more
still_some : (new : Bool) (xs : List Act) (act : Act) → xs ≢ [] → (if new then xs ++ act ∷ [] else xs) ≢ []
still_some true [] act some none = cc
still_some true (x ∷ xs) act some none = cc
still_some false xs act some none = some none

-- the rows after one more act of a subscriber are books again
pub record IsStepOfRows (old new : Rows) (terms : TermsView) (sub : Sub) (act : Act) : Type 0 where
  pub own : held_in new sub ≡ acts terms (held_in old sub ++ act ∷ [])
  pub others : (other : Sub) → other ≢ sub → held_in new other ≡ held_in old other
  pub books : AreBooks new terms

-- an account with acts is written that has one act more than the one before
pub written_steps : SameAreEqual → ActsAreActs → (old new : Rows) (terms : TermsView) (sub : Sub) (was account : Account) (act : Act) → AreBooks old terms → Found old terms sub was
    → IsWritten old new sub account → account.terms ≡ was.terms → account.acts ≡ acts was.terms (was.acts ++ act ∷ []) → account.acts ≢ [] → IsStepOfRows old new terms sub act
written_steps same law old new terms sub was account act books found written stays more_acts begun =
    let moves = moves_where_written same old new sub account written in
    let acts_are : account.acts ≡ acts terms (held_in old sub ++ act ∷ []) =
    more_acts ∙ next_found (λ (t : TermsView) (xs : List Act). acts t (xs ++ act ∷ [])) old terms sub was found in
    record {
      own = held_own old new sub account moves ∙ acts_are;
      others = held_others old new sub account moves;
      books = books_moved same old new terms sub account (held_in old sub ++ act ∷ []) law books moves (stays ∙ found.terms_are) begun acts_are;
    }

-- an account that stands has acts after one more
pub begun_still : OneMoreAct → (rows : Rows) (terms : TermsView) (sub : Sub) (was account : Account) (act : Act) → AreBooks rows terms → account_in rows sub ≡ Some was
    → account.acts ≡ acts was.terms (was.acts ++ act ∷ []) → account.acts ≢ []
begun_still more rows terms sub was account act books is more_acts none =
    let found = found_in rows terms sub was books is in
    let acts_are : account.acts ≡ acts terms (held_in rows sub ++ act ∷ []) =
    more_acts ∙ next_found (λ (t : TermsView) (xs : List Act). acts t (xs ++ act ∷ [])) rows terms sub was found in
    let some : acts terms (held_in rows sub) ≢ [] = λ empty. books.begun sub was is (found.acts_are ∙ sym (books.own sub) ∙ empty) in
    still_some (is_new terms (held_in rows sub) act) (acts terms (held_in rows sub)) act some (sym (more terms (held_in rows sub) act) ∙ sym acts_are ∙ none)

-- a first act that isn't made leaves the rows
pub unmade_steps : SameAreEqual → (rows : Rows) (terms : TermsView) (sub : Sub) (was account : Account) (act : Act) → AreBooks rows terms → Found rows terms sub was
    → was.acts ≡ [] → account.acts ≡ acts was.terms (was.acts ++ act ∷ []) → account.acts ≡ [] → IsStepOfRows rows rows terms sub act
unmade_steps same rows terms sub was account act books found empty more_acts none = record {
  own = sym found.acts_are ∙ empty ∙ sym none ∙ more_acts ∙ next_found (λ (t : TermsView) (xs : List Act). acts t (xs ++ act ∷ [])) rows terms sub was found;
  others = λ other apart. refl;
  books = books;
}

-- a step of books in which what is held stands as it did before
pub step_from : (old now new : BooksView) (sub : Sub) (asked act : Act) → now.rows ≡ old.rows → now.terms ≡ old.terms → act ≡ asked → IsStepOfBooks now new sub act
    → IsStepOfBooks old new sub asked
step_from old now new sub asked act rows terms act_is step = record {
  own = step.own ∙ ap (λ (t : TermsView). acts t (held_in now.rows sub ++ act ∷ [])) terms
      ∙ ap (λ (rs : Rows). acts old.terms (held_in rs sub ++ act ∷ [])) rows ∙ ap (λ (a : Act). acts old.terms (held_in old.rows sub ++ a ∷ [])) act_is;
  others = λ other apart. step.others other apart ∙ ap (λ (rs : Rows). held_in rs other) rows;
  terms = step.terms ∙ terms;
}

-- the entries that a step adds stand behind those of what is held
entries_found : (rows : Rows) (terms : TermsView) (sub : Sub) (account : Account) (act : Act) (step : StepView) → Found rows terms sub account → step.act ≡ act → IsPrepared account step
    → entries terms (held_in rows sub ++ act ∷ []) ≡ entries terms (held_in rows sub) ++ step.entries
entries_found rows terms sub account act step found act_is prepared =
    ap (λ (a : Act). entries terms (held_in rows sub ++ a ∷ [])) (sym act_is)
    ∙ sym (next_found (λ (t : TermsView) (xs : List Act). entries t (xs ++ step.act ∷ [])) rows terms sub account found)
    ∙ prepared.judged.entries_are
    ∙ next_found (λ (t : TermsView) (xs : List Act). entries t xs ++ step.entries) rows terms sub account found

-- what a step that an account prepared says is said of what is held
pub record IsFound (books : BooksView) (sub : Sub) (act : Act) (step : StepView) : Type 0 where
  pub outcome_is : step.outcome ≡ after books.terms (held_in books.rows sub) act
  pub place_is : step.place ≡ place books.terms (held_in books.rows sub) act
  pub new_is : step.is_new ≡ is_new books.terms (held_in books.rows sub) act
  pub entries_are : entries books.terms (held_in books.rows sub ++ act ∷ []) ≡ entries books.terms (held_in books.rows sub) ++ step.entries

pub step_found : (books : BooksView) (sub : Sub) (account : Account) (act : Act) (step : StepView) → Found books.rows books.terms sub account
    → step.act ≡ act → IsPrepared account step → IsFound books sub act step
step_found books sub account act step found act_is prepared = record {
  outcome_is = prepared.judged.outcome_is ∙ next_found (λ terms xs. after terms xs step.act) books.rows books.terms sub account found ∙ ap (after books.terms (held_in books.rows sub)) act_is;
  place_is = prepared.judged.place_is ∙ next_found (λ terms xs. place terms xs step.act) books.rows books.terms sub account found ∙ ap (place books.terms (held_in books.rows sub)) act_is;
  new_is = prepared.judged.new_is ∙ next_found (λ terms xs. is_new terms xs step.act) books.rows books.terms sub account found ∙ ap (is_new books.terms (held_in books.rows sub)) act_is;
  entries_are = entries_found books.rows books.terms sub account act step found act_is prepared;
}

-- a step that an account of the books prepared is the pending one of its subscriber
pub pending_known : (books : BooksView) (sub : Sub) (account : Account) (act : Act) (step : StepView) → AreBooks books.rows books.terms → account_in books.rows sub ≡ Some account
    → step.act ≡ act → IsPrepared account step → IsPending books sub act (Known step)
pending_known books sub account act step are is act_is prepared =
    let found = step_found books sub account act step (found_in books.rows books.terms sub account are is) act_is prepared in
    record { stands = (account, is, prepared); act_is = act_is; outcome_is = found.outcome_is; place_is = found.place_is; new_is = found.new_is; entries_are = found.entries_are }

-- so is one of an account that is added with it
pub pending_first : (books : BooksView) (sub : Sub) (account : Account) (act : Act) (step : StepView) → account_in books.rows sub ≡ None → account.terms ≡ books.terms
    → account.acts ≡ [] → 0 < books.room → step.act ≡ act → IsPrepared account step → IsPending books sub act (First account step)
pending_first books sub account act step none terms_are empty room act_is prepared =
    let found = step_found books sub account act step (found_none books.rows books.terms sub account none terms_are empty) act_is prepared in
    record { stands = (none, terms_are, empty, prepared, room); act_is = act_is; outcome_is = found.outcome_is; place_is = found.place_is; new_is = found.new_is; entries_are = found.entries_are }

-- a pending step is that of its own act
pub pending_own : (books : BooksView) (sub : Sub) (act : Act) (pending : Pending) → IsPending books sub act pending → IsPending books sub (step_of pending).act pending
pending_own books sub act pending is = subst (λ (a : Act). IsPending books sub a pending) (sym is.act_is) is
