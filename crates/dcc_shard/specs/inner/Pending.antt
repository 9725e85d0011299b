-- A step that is prepared and not yet installed: of an account in the books, or of an account that is added with the step.
use Rattle.std.specs.Prelude.{◌≡◌, ◌<◌, [], ◌∷◌, ◌++◌, Some, None}
use Rattle.dcc_act.specs.declared.act.Act.{Act}
use Rattle.dcc_act.specs.declared.sub.Sub.{Sub}
use Rattle.dcc_account.specs.declared.account.Account.{Account}
use Rattle.dcc_account.specs.Prepared.{StepView, IsPrepared}
use Rattle.dcc_model.specs.Outcomes.{after, place, is_new}
use Rattle.dcc_model.specs.Entries.{entries}
use Rattle.dcc_shard.specs.Shards.{account_in, held_in}
use Rattle.dcc_shard.specs.inner.Books.{BooksView}
use Rattle.dcc_shard.specs.declared.pending.Pending.{Pending}
use Rattle.dcc_shard.specs.declared.pending.Pending.TheVariants.{Known, First}

abbrev pub step_of : Pending → StepView
step_of (Known step) = step
step_of (First account step) = step

-- The step is prepared for the books as they stand. An account that is added is under their terms, and there is room for it.
abbrev pub Stands : BooksView → Sub → Pending → Type 0
Stands books sub (Known step) = (account : Account) × (account_in books.rows sub ≡ Some account) × IsPrepared account step
Stands books sub (First account step) =
    (account_in books.rows sub ≡ None) × (account.terms ≡ books.terms) × (account.acts ≡ []) × IsPrepared account step × (0 < books.room)

-- the step of one more act of a subscriber
pub record IsPending (books : BooksView) (sub : Sub) (act : Act) (pending : Pending) : Type 0 where
  pub stands : Stands books sub pending
  pub act_is : (step_of pending).act ≡ act
  pub outcome_is : (step_of pending).outcome ≡ after books.terms (held_in books.rows sub) act
  pub place_is : (step_of pending).place ≡ place books.terms (held_in books.rows sub) act
  pub new_is : (step_of pending).is_new ≡ is_new books.terms (held_in books.rows sub) act
  pub entries_are : entries books.terms (held_in books.rows sub ++ act ∷ []) ≡ entries books.terms (held_in books.rows sub) ++ (step_of pending).entries
