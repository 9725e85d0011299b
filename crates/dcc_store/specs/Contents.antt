-- The content of a store: the acts, the entries and the account that it keeps of each subscriber.
use Rattle.std.specs.Prelude.{◌≡◌, ℕ, ℤ, List, [], ◌∷◌, ◌++◌, length}
use Rattle.dcc_tariff.specs.Terms.{TermsView}
use Rattle.dcc_act.specs.declared.act.Act.{Act}
use Rattle.dcc_act.specs.declared.entry.Entry.{Entry}
use Rattle.dcc_act.specs.declared.sub.Sub.{Sub}
use Rattle.dcc_model.specs.Outcomes.{acts, funds}
use Rattle.dcc_model.specs.Entries.{entries}
use Rattle.dcc_store.specs.Books.{Held}

-- a subscriber's account in a store: the number of its acts, and its funds
pub record KeptAccount : Type 0 where
  pub acts : ℕ
  pub funds : ℤ

-- what a store keeps of one subscriber: its acts, its entries in the books, in order, and its account
pub record Kept : Type 0 where
  pub acts : List Act
  pub entries : List Entry
  pub account : KeptAccount

-- what a store has to keep of a subscriber who has these acts
abbrev pub kept_by : TermsView → List Act → Kept
kept_by terms all = record { acts = all; entries = entries terms all; account = record { acts = length all; funds = funds terms all } }

-- a content: what a store keeps of each subscriber, whether or not it has to be kept
abbrev pub Content : Type 0
Content = Sub → Kept

-- The content is what a store has to keep of this book.
abbrev pub IsContentOf : TermsView → Held → Content → Type 0
IsContentOf terms held content = (sub : Sub) → content sub ≡ kept_by terms (held sub)

-- An act may come next after a subscriber's acts, and adds these entries: the list with the act makes exactly its own acts again. So
-- a store that keeps both keeps what it has to keep.
pub record IsNext (terms : TermsView) (before : List Act) (act : Act) (more : List Entry) : Type 0 where
  pub own : acts terms (before ++ act ∷ []) ≡ before ++ act ∷ []
  pub entries_are : entries terms (before ++ act ∷ []) ≡ entries terms before ++ more
