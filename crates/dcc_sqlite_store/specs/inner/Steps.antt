-- The steps of a batch: its acts, as they are written.
use Rattle.std.specs.Prelude.{◌≡◌, ◌+◌, ◌+ℤ◌, List, [], ◌∷◌, map, if◌then◌else◌, IsSome}
use Rattle.std.specs.Map.{lookup}
use Rattle.std.specs.Ordering.{is_eq}
use Rattle.sqlite.specs.Tree.{Trees}
use Rattle.dcc_act.specs.declared.sub.Sub.{Sub}
use Rattle.dcc_model.specs.Entries.{sum_of}
use Rattle.dcc_act_codec.specs.Limits.{IsAct}
use Rattle.dcc_act_codec.specs.Records.{record_of}
use Rattle.dcc_store.specs.Books.{sub_order}
use Rattle.dcc_store.specs.Batches.{AdditionView}
use Rattle.dcc_sqlite_rows.specs.declared.tally.Tally.{Tally}
use Rattle.dcc_sqlite_rows.specs.Pages.{IsSub}
use Rattle.dcc_sqlite_rows.specs.Rows.{sub_octets}
use Rattle.dcc_sqlite_store.specs.inner.Tallies.{tally_in}
use Rattle.dcc_sqlite_store.specs.inner.Trees.{Appends}

-- an act of a subscriber, with its entries, and the tally that it leaves to the subscriber
pub record StepView : Type 0 where
  pub one : AdditionView
  pub next : Tally

-- the step of an addition to a subscriber of this tally
abbrev pub step_behind : Tally → AdditionView → StepView
step_behind tally one = record { one = one; next = record { acts = tally.acts + 1; funds = tally.funds +ℤ sum_of one.entries } }

-- the steps of a batch, each behind the tally of its subscriber
abbrev pub steps_behind : List (Sub × Tally) → List AdditionView → List StepView
steps_behind tallies batch = map (λ one. step_behind (tally_in tallies one.sub) one) batch

-- The act of a step is added with its entries, and its subscriber's account is set. The act and the subscriber are within their limits.
pub record AppendsStep (step : StepView) (old new : Trees) : Type 0 where
  pub fits : IsAct step.one.act
  pub valid : IsSub step.one.sub
  pub appends : Appends (sub_octets step.one.sub) step.next.acts (record_of step.one.act) step.one.entries step.next.funds old new

-- the steps are made one after another
abbrev pub AppendsAll : List StepView → Trees → Trees → Type 0
AppendsAll [] old new = old ≡ new
AppendsAll (step ∷ steps) old new = (between : Trees) × AppendsStep step old between × AppendsAll steps between new

-- there is a place for the tally of this subscriber
abbrev pub HasPlace : List (Sub × Tally) → Sub → Type 0
HasPlace tallies sub = IsSome (lookup (λ key. is_eq (sub_order sub key)) tallies)

-- there is a place for the tally of each step
abbrev pub HavePlaces : List (Sub × Tally) → List StepView → Type 0
HavePlaces tallies [] = Unit {0}
HavePlaces tallies (step ∷ steps) = HasPlace tallies step.one.sub × HavePlaces tallies steps

-- the tallies with this one of a subscriber
abbrev pub with_tally : Sub → Tally → (Sub → Tally) → Sub → Tally
with_tally sub next tally = λ other. if is_eq (sub_order sub other) then next else tally other

-- the tallies once the steps are made
abbrev pub tallies_after : List StepView → (Sub → Tally) → Sub → Tally
tallies_after [] tally = tally
tallies_after (step ∷ steps) tally = tallies_after steps (with_tally step.one.sub step.next tally)
