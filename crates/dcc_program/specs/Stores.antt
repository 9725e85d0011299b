-- `dcc topup`, `dcc ledger` and `dcc balance`: the commands over the store of one shard under the plan of a file.
use Rattle.std.specs.Prelude.{⊤, ℕ, Bool, List, Option, IfSome, option_map}
use Rattle.dcc_tariff.specs.Plans.{PlanView}
use Rattle.dcc_act.specs.declared.sub.Sub.{Sub}
use Rattle.dcc_store.specs.Contents.{Content}
use Rattle.dcc_shard.specs.Answers.{top_up_act}
use Rattle.dcc_shard.specs.Routes.{shard_of}
use Rattle.dcc_shard.specs.Shards.{ShardView, IsStep}
use Rattle.dcc_shard.specs.Stored.{StoredView}
use Rattle.dcc_operator.specs.declared.commands.TopUpAsk.{TopUpAsk}
use Rattle.dcc_operator.specs.declared.page.Page.{Page}
use Rattle.dcc_operator.specs.Commands.{IsToppedUp, IsToppedUpBegun, IsShown, IsShownBegun}
use Rattle.dcc_startup.specs.Openings.{IsOpenedOver}
use Rattle.dcc_replay.specs.Names.{identity_of}
use Rattle.dcc_program.specs.declared.failure.Failure.{Failure}
use Rattle.dcc_program.specs.declared.failure.Failure.TheVariants.{Usage, Memory, Io, Plan, Store, Script, Close}
use Rattle.dcc_program.specs.Plans.{IsPlanOf, IsPlanFailure}

-- a top-up was made under the plan of the file, in the store of its subscriber's shard as the opening returns it. No other act was made there. A
-- writer, before and after, has grown by the line of its answer
pub record IsTopUp {R : Type 0} (opens : PlanView → ℕ → R → Type 0) (may_leave : R → Content → Type 0) (file : Option (List ℕ)) (ask : TopUpAsk)
    (old new : Option (List ℕ)) : Type 0 where
  pub plan : PlanView
  pub given : IsPlanOf file plan
  pub before : StoredView R
  pub opened : IsOpenedOver (opens plan (shard_of ask.sub plan.shards)) may_leave before
  pub after : ShardView
  pub judged : Bool
  pub step : IsStep before.shard after judged ask.sub (top_up_act ask.moment ask.ticket ask.amount)
  pub told : IsToppedUp plan (identity_of plan) ask after old new

-- a top-up was made so, and a writer has grown by the first octets of the line of its answer
abbrev pub IsTopUpBegun : (file : Option (List ℕ)) → TopUpAsk → (old new : Option (List ℕ)) → Type 0
IsTopUpBegun file ask old new = (plan : PlanView) × IsPlanOf file plan × (after : ShardView) × IsToppedUpBegun plan (identity_of plan) ask after old new

-- a writer has grown by a page of a subscriber under the plan of the file, from the store of its shard as the opening returns it, if there is one
pub record IsPage (page : Page) {R : Type 0} (opens : PlanView → ℕ → R → Type 0) (may_leave : R → Content → Type 0) (file : Option (List ℕ)) (sub : Sub)
    (old new : Option (List ℕ)) : Type 0 where
  pub plan : PlanView
  pub given : IsPlanOf file plan
  pub stored : Option (StoredView R)
  pub opened : IfSome stored (IsOpenedOver (opens plan (shard_of sub plan.shards)) may_leave)
  pub shown : IsShown page plan (identity_of plan) sub (option_map (λ store. store.shard) stored) old new

-- a writer has grown by the first octets of such a page
abbrev pub IsPageBegun : Page → (file : Option (List ℕ)) → Sub → (old new : Option (List ℕ)) → Type 0
IsPageBegun page file sub old new = (plan : PlanView) × IsPlanOf file plan × IsShownBegun page plan (identity_of plan) sub old new

-- the failures of a command over a store: the plan's, or under a good plan the store's; or memory, input or output
abbrev pub IsStoreFailure : (file : Option (List ℕ)) → Failure → Type 0
IsStoreFailure file Usage = ⊥
IsStoreFailure file Memory = ⊤
IsStoreFailure file Io = ⊤
IsStoreFailure file (Plan number) = IsPlanFailure file (Plan number)
IsStoreFailure file (Store number) = (plan : PlanView) × IsPlanOf file plan
IsStoreFailure file (Script line) = ⊥
IsStoreFailure file (Close number) = ⊥
