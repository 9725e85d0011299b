-- The account of one subscriber among the others.
use Rattle.std.proofs.Common.{◌≡◌, ◌≢◌, cond, List, [], Option, Some, Result, Ok, OnOk, refl, sym, ap, subst, ◌∙◌, inl, inr}
use Rattle.std.specs.Option.{option_map_or}
use Rattle.dcc_tariff.specs.Terms.{TermsView}
use Rattle.dcc_act.specs.declared.act.Act.{Act}
use Rattle.dcc_act.specs.declared.sub.Sub.{Sub}
use Rattle.dcc_account.specs.declared.account.Account.{Account}
use Rattle.dcc_model.specs.Outcomes.{acts}
use Rattle.dcc_model.specs.Laws.{ActsAreActs}
use Rattle.dcc_act.specs.Subs.{same_sub, SameAreEqual}
use Rattle.dcc_shard.specs.Shards.{account_in, held_in}
use Rattle.dcc_shard.specs.inner.Books.{AreBooks}
use Rattle.dcc_shard.proofs.Subs.{same_sub-same, same_sub-other, one_or_other}

abbrev pub Rows : Type 0
Rows = List (Sub × Account)

abbrev pub acts_held : Option Account → List Act
acts_held found = option_map_or (λ (account : Account). account.acts) found []

-- the subscriber has this account now, and each other what it had
abbrev pub IsWritten : Rows → Rows → Sub → Account → Type 0
IsWritten old new sub account = (other : Sub) → account_in new other ≡ cond (same_sub sub other) (Some account) (account_in old other)

-- the books after a step of one subscriber, whose account is then this one
pub record Moves (old new : Rows) (sub : Sub) (account : Account) : Type 0 where
  pub own : account_in new sub ≡ Some account
  pub others : (other : Sub) → other ≢ sub → account_in new other ≡ account_in old other

pub moves_where_written : SameAreEqual → (old new : Rows) (sub : Sub) (account : Account) → IsWritten old new sub account → Moves old new sub account
moves_where_written same old new sub account written = record {
  own = written sub ∙ rw (same_sub-same same sub) refl;
  others = λ other apart. written other ∙ rw (same_sub-other same sub other (λ e. apart (sym e))) refl;
}

pub held_own : (old new : Rows) (sub : Sub) (account : Account) → Moves old new sub account → held_in new sub ≡ account.acts
held_own old new sub account h = ap acts_held h.own

pub held_others : (old new : Rows) (sub : Sub) (account : Account) → Moves old new sub account → (other : Sub) → other ≢ sub → held_in new other ≡ held_in old other
held_others old new sub account h other apart = ap acts_held (h.others other apart)

-- they stay books, where the account has the terms and its acts are those that they make
pub books_moved : SameAreEqual → (old new : Rows) (terms : TermsView) (sub : Sub) (account : Account) (next : List Act) → ActsAreActs → AreBooks old terms → Moves old new sub account
    → account.terms ≡ terms → account.acts ≢ [] → account.acts ≡ acts terms next → AreBooks new terms
books_moved same old new terms sub account next law books moves terms_are begun acts_are = record {
  terms_are = λ s found is. elim (one_or_other same s sub) [
    | inl e ↦ (let here : Some found ≡ Some account = sym is ∙ ap (account_in new) e ∙ moves.own in let one : found ≡ account = cc in rw one terms_are)
    | inr apart ↦ books.terms_are s found (sym (moves.others s apart) ∙ is)
  ];
  begun = λ s found is. elim (one_or_other same s sub) [
    | inl e ↦ (let here : Some found ≡ Some account = sym is ∙ ap (account_in new) e ∙ moves.own in let one : found ≡ account = cc in rw one begun)
    | inr apart ↦ books.begun s found (sym (moves.others s apart) ∙ is)
  ];
  own = λ s. elim (one_or_other same s sub) [
    | inl e ↦ (let here : held_in new s ≡ acts terms next = ap (held_in new) e ∙ held_own old new sub account moves ∙ acts_are in rw here (law terms next))
    | inr apart ↦ (let stays = held_others old new sub account moves s apart in rw stays (books.own s))
  ];
}

-- what holds on success, where that is known
pub on_success : {X E : Type 0} (result : Result X E) (x : X) (P : Type 0) → result ≡ Ok x → OnOk result P → P
on_success {X} {E} result x P is h = let Q : Result X E → Type 0 = λ r. OnOk r P in subst Q is h
