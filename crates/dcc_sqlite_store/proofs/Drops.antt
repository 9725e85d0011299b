-- What DROP TABLE leaves of a schema.
use Rattle.std.proofs.Common.{◌≡◌, ℕ, List, [], codes, None, Ok, refl, ap, subst, ◌∙◌}
use Rattle.sqlite.specs.Schema.{Schema}
use Rattle.sqlite.specs.Command.TheVariants.{DropTable}
use Rattle.sqlite.specs.Does.{Tally, Does}
use Rattle.sqlite.specs.Listing.{understood}
use Rattle.sqlite.specs.Effect.{Database}
use Rattle.sqlite.specs.State.{State, mode_of, ExecutesInside}
use Rattle.sqlite.proofs.Callers.{IsPlain, command_of, statement_of, runs_as}
use Rattle.sqlite_tied.specs.Compute.{everything}
use Rattle.dcc_sqlite_store.specs.Tables.{layout, no_schema}
use Rattle.dcc_sqlite_store.proofs.Inserts.{went, same_value}
use Rattle.dcc_sqlite_store.specs.inner.Dropping.{without_entries, without_accounts, without_acts, HasLeft}

abbrev pub drop_entry_text : List ℕ
drop_entry_text = codes "DROP TABLE entry"

abbrev pub drop_account_text : List ℕ
drop_account_text = codes "DROP TABLE account"

abbrev pub drop_act_text : List ℕ
drop_act_text = codes "DROP TABLE act"

abbrev pub drop_setting_text : List ℕ
drop_setting_text = codes "DROP TABLE setting"

pub drop_entry_is : command_of (understood layout drop_entry_text) ≡ DropTable 2
unfolding understood everything
drop_entry_is = refl

pub drop_entry_plain : IsPlain (understood layout drop_entry_text)
unfolding understood everything
drop_entry_plain = (refl, refl)

pub drop_account_is : command_of (understood without_entries drop_account_text) ≡ DropTable 2
unfolding understood everything
drop_account_is = refl

pub drop_account_plain : IsPlain (understood without_entries drop_account_text)
unfolding understood everything
drop_account_plain = (refl, refl)

pub drop_act_is : command_of (understood without_accounts drop_act_text) ≡ DropTable 1
unfolding understood everything
drop_act_is = refl

pub drop_act_plain : IsPlain (understood without_accounts drop_act_text)
unfolding understood everything
drop_act_plain = (refl, refl)

pub drop_setting_is : command_of (understood without_acts drop_setting_text) ≡ DropTable 0
unfolding understood everything
drop_setting_is = refl

pub drop_setting_plain : IsPlain (understood without_acts drop_setting_text)
unfolding understood everything
drop_setting_plain = (refl, refl)

module _ (before : Schema) (text : List ℕ) (at : ℕ) (is : command_of (understood before text) ≡ DropTable at) (plain : IsPlain (understood before text)) where
  pub does : (old new : State) (count : ℕ) → old.now.schema ≡ before → ExecutesInside 0 text [] old new (Ok count)
      → (tally : Tally) × Does old.step_limit (mode_of old) [] (record old.now { schema = before }) (statement_of text (understood before text)) None (DropTable at) (Ok (tally, new.now))
  does old new count has inside =
      let w = runs_as text [] old new before has (DropTable at) is plain count inside.0 in
      (w.tally, subst (λ s. Does old.step_limit (mode_of old) [] (record old.now { schema = s }) (statement_of text (understood before text)) None (DropTable at) (Ok (w.tally, new.now))) has w.changed)

pub dropped_entry : (old new : State) (count : ℕ) → old.now.schema ≡ layout → ExecutesInside 0 drop_entry_text [] old new (Ok count) → HasLeft without_entries old new
dropped_entry old new count has inside =
    let d = does layout drop_entry_text 2 drop_entry_is drop_entry_plain old new count has inside in
    let emptied = went d.1 in
    let uncounted = went emptied.2 in
    let tested = went uncounted.2 in
    let left = went tested.2 in
    let now = ap (λ (p : Tally × Database). p.1) (same_value left.2) in
    record { inside = inside.1.mode; committed = inside.1.committed_is; schema = ap (λ (d : Database). d.schema) now ∙ left.1.0 }

pub dropped_account : (old new : State) (count : ℕ) → old.now.schema ≡ without_entries → ExecutesInside 0 drop_account_text [] old new (Ok count) → HasLeft without_accounts old new
dropped_account old new count has inside =
    let d = does without_entries drop_account_text 2 drop_account_is drop_account_plain old new count has inside in
    let emptied = went d.1 in
    let uncounted = went emptied.2 in
    let tested = went uncounted.2 in
    let left = went tested.2 in
    let now = ap (λ (p : Tally × Database). p.1) (same_value left.2) in
    record { inside = inside.1.mode; committed = inside.1.committed_is; schema = ap (λ (d : Database). d.schema) now ∙ left.1.0 }

pub dropped_act : (old new : State) (count : ℕ) → old.now.schema ≡ without_accounts → ExecutesInside 0 drop_act_text [] old new (Ok count) → HasLeft without_acts old new
dropped_act old new count has inside =
    let d = does without_accounts drop_act_text 1 drop_act_is drop_act_plain old new count has inside in
    let emptied = went d.1 in
    let uncounted = went emptied.2 in
    let tested = went uncounted.2 in
    let left = went tested.2 in
    let now = ap (λ (p : Tally × Database). p.1) (same_value left.2) in
    record { inside = inside.1.mode; committed = inside.1.committed_is; schema = ap (λ (d : Database). d.schema) now ∙ left.1.0 }

pub dropped_setting : (old new : State) (count : ℕ) → old.now.schema ≡ without_acts → ExecutesInside 0 drop_setting_text [] old new (Ok count) → HasLeft no_schema old new
dropped_setting old new count has inside =
    let d = does without_acts drop_setting_text 0 drop_setting_is drop_setting_plain old new count has inside in
    let emptied = went d.1 in
    let uncounted = went emptied.2 in
    let tested = went uncounted.2 in
    let left = went tested.2 in
    let now = ap (λ (p : Tally × Database). p.1) (same_value left.2) in
    record { inside = inside.1.mode; committed = inside.1.committed_is; schema = ap (λ (d : Database). d.schema) now ∙ left.1.0 }
