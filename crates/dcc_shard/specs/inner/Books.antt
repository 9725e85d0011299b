-- The books of a shard: its accounts under their terms, and the books after a step.
use Rattle.std.specs.Prelude.{◌≡◌, ◌≢◌, ℕ, List, [], ◌∷◌, ◌++◌, Some}
use Rattle.dcc_tariff.specs.Terms.{TermsView}
use Rattle.dcc_act.specs.declared.act.Act.{Act}
use Rattle.dcc_act.specs.declared.sub.Sub.{Sub}
use Rattle.dcc_account.specs.declared.account.Account.{Account}
use Rattle.dcc_model.specs.Outcomes.{acts}
use Rattle.dcc_openers.specs.Openers.{OpenersView}
use Rattle.dcc_shard.specs.Shards.{account_in, held_in}

-- the terms by which accounts are judged, the accounts, and the number of further accounts for which there is memory
pub record BooksView : Type 0 where
  pub terms : TermsView
  pub rows : List (Sub × Account)
  pub room : ℕ

-- books with the index of who opened which session from which host, and the records that keep them
pub record KeptView (R : Type 0) : Type 0 where
  pub books : BooksView
  pub openers : OpenersView
  pub records : R

-- each account is under the terms and has at least one act; its acts are exactly those that their own list makes
pub record AreBooks (rows : List (Sub × Account)) (terms : TermsView) : Type 0 where
  pub terms_are : (sub : Sub) (account : Account) → account_in rows sub ≡ Some account → account.terms ≡ terms
  pub begun : (sub : Sub) (account : Account) → account_in rows sub ≡ Some account → account.acts ≢ []
  pub own : (sub : Sub) → acts terms (held_in rows sub) ≡ held_in rows sub

-- the books after one more act of a subscriber; the acts of other subscribers stay
pub record IsStepOfBooks (old new : BooksView) (sub : Sub) (act : Act) : Type 0 where
  pub own : held_in new.rows sub ≡ acts old.terms (held_in old.rows sub ++ act ∷ [])
  pub others : (other : Sub) → other ≢ sub → held_in new.rows other ≡ held_in old.rows other
  pub terms : new.terms ≡ old.terms

-- the account of each other subscriber stays
abbrev pub StayApart : (old new : List (Sub × Account)) → Sub → Type 0
StayApart old new sub = (other : Sub) → other ≢ sub → account_in new other ≡ account_in old other
