-- The commands over the store of one shard.
use Rattle.std.specs.Prelude.{⊤, ◌≡◌, ◌≢◌, ℕ, Bool, List, [], Option, Some, None}
use Rattle.std.specs.Io.KnownBytes.{Appends}
use Rattle.dcc_tariff.specs.Plans.{PlanView}
use Rattle.dcc_message.specs.declared.identity.Identity.{Identity}
use Rattle.dcc_act.specs.declared.sub.Sub.{Sub}
use Rattle.dcc_shard.specs.declared.answers.TopUpAnswer.{TopUpAnswer}
use Rattle.dcc_shard.specs.Answers.{IsTold, is_judged_top_up, top_up_act}
use Rattle.dcc_shard.specs.Routes.{shard_of}
use Rattle.dcc_shard.specs.Shards.{ShardView, held, AreOwn, IsStep}
use Rattle.dcc_operator.specs.declared.commands.TopUpAsk.{TopUpAsk}
use Rattle.dcc_store.specs.Contents.{Content}
use Rattle.dcc_operator.specs.declared.fault.OperatorFault.{OperatorFault}
use Rattle.dcc_operator.specs.declared.fault.OperatorFault.TheVariants.{Store}
use Rattle.dcc_startup.specs.Openings.{IsFaultOver}
use Rattle.dcc_operator.specs.declared.page.Page.{Page}
use Rattle.dcc_operator.specs.Ledgers.{page_of, unknown_line}
use Rattle.dcc_operator.specs.Texts.{IsBegun}
use Rattle.dcc_operator.specs.TopUps.{line_of}

-- a shard that was opened for a subscriber: under the plan's terms, for this server, with lists of acts that make exactly their own acts, and
-- with subscribers of the subscriber's shard alone
pub record IsOpenedFor (plan : PlanView) (identity : Identity) (sub : Sub) (shard : ShardView) : Type 0 where
  pub terms : shard.terms ≡ plan.terms
  pub identity_is : shard.identity ≡ identity
  pub own : AreOwn shard
  pub placed : (other : Sub) → held shard other ≢ [] → shard_of other plan.shards ≡ shard_of sub plan.shards

-- a top-up was answered by its definition from the acts held before; the acts held since are those after the top-up if it was judged, and
-- otherwise those before
pub record IsMade (plan : PlanView) (identity : Identity) (ask : TopUpAsk) (answer : TopUpAnswer) (after : ShardView) : Type 0 where
  pub before : ShardView
  pub opened : IsOpenedFor plan identity ask.sub before
  pub told : IsTold before ask.sub ask.moment ask.ticket ask.amount answer
  pub step : IsStep before after (is_judged_top_up answer) ask.sub (top_up_act ask.moment ask.ticket ask.amount)

-- a top-up was made so, and the line of its answer was written, or the first octets of this line
abbrev pub IsToppedUp : PlanView → Identity → TopUpAsk → ShardView → (old new : Option (List ℕ)) → Type 0
IsToppedUp plan identity ask after old new = (answer : TopUpAnswer) × IsMade plan identity ask answer after × Appends old new (line_of answer)

abbrev pub IsToppedUpBegun : PlanView → Identity → TopUpAsk → ShardView → (old new : Option (List ℕ)) → Type 0
IsToppedUpBegun plan identity ask after old new = (answer : TopUpAnswer) × IsMade plan identity ask answer after × IsBegun (line_of answer) old new

-- a top-up isn't made, and its fault is reported: the opening refused the store by the fault of this number; or no shard is made over its
-- records, for the fault of this number, and a stop leaves no content of them that it did not leave before
abbrev pub IsRefused : {R : Type 0} → (ℕ → Type 0) → (R → Type 0) → (R → Content → Type 0) → (R → Bool) → ℕ → ℕ → OperatorFault → Option R → Type 0
IsRefused refuses opens may_leave is_stopped index count fault None = (number : ℕ) × (fault ≡ Store number) × refuses number
IsRefused {R} refuses opens may_leave is_stopped index count fault (Some records) =
    (number : ℕ) × (fault ≡ Store number) × (given : R) × opens given × IsFaultOver may_leave is_stopped given index count number
    × ((found : Content) → may_leave records found → may_leave given found)

-- the text of a subscriber: a page of it by the shard that was opened, or the line of an unknown account if none was opened
abbrev pub shown_of : Page → Option ShardView → Sub → List ℕ
shown_of page None sub = unknown_line sub
shown_of page (Some shard) sub = page_of page shard.terms sub (held shard sub)

abbrev pub IsOpenedIfAny : PlanView → Identity → Sub → Option ShardView → Type 0
IsOpenedIfAny plan identity sub None = ⊤
IsOpenedIfAny plan identity sub (Some shard) = IsOpenedFor plan identity sub shard

abbrev pub IsShown : Page → PlanView → Identity → Sub → Option ShardView → (old new : Option (List ℕ)) → Type 0
IsShown page plan identity sub shard old new = IsOpenedIfAny plan identity sub shard × Appends old new (shown_of page shard sub)

abbrev pub IsShownBegun : Page → PlanView → Identity → Sub → (old new : Option (List ℕ)) → Type 0
IsShownBegun page plan identity sub old new = (shard : Option ShardView) × IsOpenedIfAny plan identity sub shard × IsBegun (shown_of page shard sub) old new
