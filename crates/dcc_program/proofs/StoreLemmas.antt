-- The facts about a command over a store if nothing is known of the plan's file.
use Rattle.std.proofs.Common.{◌≡◌, ◌⊎◌, inl, inr, ℕ, List, Option, None, Some, Result, Ok, Err, IfErr, refl}
use Rattle.std.specs.Prelude.{IsSomeAnd}
use Rattle.std.specs.Io.KnownBytes.{Keeps}
use Rattle.dcc_tariff.specs.Plans.{PlanView}
use Rattle.dcc_act.specs.declared.sub.Sub.{Sub}
use Rattle.dcc_store.specs.Contents.{Content}
use Rattle.dcc_shard.specs.Shards.{ShardView}
use Rattle.dcc_operator.specs.declared.commands.TopUpAsk.{TopUpAsk}
use Rattle.dcc_operator.specs.declared.page.Page.{Page}
use Rattle.dcc_operator.specs.declared.fault.OperatorFault.{OperatorFault}
use Rattle.dcc_operator.specs.declared.fault.OperatorFault.TheVariants as operator
use Rattle.dcc_program.specs.Failures.{of_operator}
use Rattle.dcc_program.specs.Stores.{IsTopUp, IsTopUpBegun, IsPage, IsPageBegun, IsStoreFailure}
use Rattle.dcc_program.specs.declared.failure.Failure.{Failure}
use Rattle.dcc_program.specs.declared.failure.Failure.TheVariants.{Usage, Memory, Io, Plan, Store, Script, Close}

pub top_up_of_any : {R : Type 0} (opens : PlanView → ℕ → R → Type 0) (may_leave : R → Content → Type 0) (file : Option (List ℕ)) (ask : TopUpAsk)
    (old new : Option (List ℕ)) → IsTopUp opens may_leave file ask old new → IsTopUp opens may_leave None ask old new
top_up_of_any opens may_leave file ask old new it = record {
  plan = it.plan;
  given = tt;
  before = it.before;
  opened = it.opened;
  after = it.after;
  judged = it.judged;
  step = it.step;
  told = it.told;
}

pub page_of_any : (page : Page) {R : Type 0} (opens : PlanView → ℕ → R → Type 0) (may_leave : R → Content → Type 0) (file : Option (List ℕ)) (sub : Sub)
    (old new : Option (List ℕ)) → IsPage page opens may_leave file sub old new → IsPage page opens may_leave None sub old new
page_of_any page opens may_leave file sub old new it = record { plan = it.plan; given = tt; stored = it.stored; opened = it.opened; shown = it.shown }

failure_of_any : (file : Option (List ℕ)) (failure : Failure) → IsStoreFailure file failure → IsStoreFailure None failure
failure_of_any file Usage it = it
failure_of_any file Memory it = it
failure_of_any file Io it = it
failure_of_any file (Plan number) it = (it.0, it.1, tt)
failure_of_any file (Store number) it = (it.0, tt)
failure_of_any file (Script line) it = it
failure_of_any file (Close number) it = it

pub failed_of_any : {T : Type 0} (file : Option (List ℕ)) (r : Result T Failure) → IfErr r (IsStoreFailure file) → IfErr r (IsStoreFailure None)
failed_of_any file (Ok done) it = tt
failed_of_any file (Err failure) it = failure_of_any file failure it

begun_top_up : (file : Option (List ℕ)) (ask : TopUpAsk) (old new : Option (List ℕ)) → Keeps old new ⊎ IsTopUpBegun file ask old new
    → Keeps old new ⊎ IsTopUpBegun None ask old new
begun_top_up file ask old new (inl kept) = inl kept
begun_top_up file ask old new (inr begun) = inr (begun.0, tt, begun.2, begun.3)

pub top_up_begun_of_any : {T : Type 0} (file : Option (List ℕ)) (ask : TopUpAsk) (old new : Option (List ℕ)) (r : Result T Failure)
    → IfErr r (λ failure. failure ≡ Io → Keeps old new ⊎ IsTopUpBegun file ask old new)
    → IfErr r (λ failure. failure ≡ Io → Keeps old new ⊎ IsTopUpBegun None ask old new)
top_up_begun_of_any file ask old new (Ok done) it = tt
top_up_begun_of_any file ask old new (Err failure) it = λ is. begun_top_up file ask old new (it is)

begun_page : (page : Page) (file : Option (List ℕ)) (sub : Sub) (old new : Option (List ℕ)) → Keeps old new ⊎ IsPageBegun page file sub old new
    → Keeps old new ⊎ IsPageBegun page None sub old new
begun_page page file sub old new (inl kept) = inl kept
begun_page page file sub old new (inr begun) = inr (begun.0, tt, begun.2)

pub page_begun_of_any : (page : Page) {T : Type 0} (file : Option (List ℕ)) (sub : Sub) (old new : Option (List ℕ)) (r : Result T Failure)
    → IfErr r (λ failure. failure ≡ Io → Keeps old new ⊎ IsPageBegun page file sub old new)
    → IfErr r (λ failure. failure ≡ Io → Keeps old new ⊎ IsPageBegun page None sub old new)
page_begun_of_any page file sub old new (Ok done) it = tt
page_begun_of_any page file sub old new (Err failure) it = λ is. begun_page page file sub old new (it is)

-- a command over a store that fails at output has a fault of the output
pub of_output : (fault : OperatorFault) → of_operator fault ≡ Io → fault ≡ operator.Output
of_output operator.Memory is = cc
of_output operator.Output is = refl
of_output (operator.Store number) is = cc

-- what stands with the records that are handed back
pub stood : {R : Type 0} (records : Option R) (P : ShardView → Type 0) (Q : ShardView → R → Type 0)
    → IsSomeAnd records (λ given. (after : ShardView) × P after × Q after given) → (after : ShardView) × P after
stood None P Q it = absurd it
stood (Some given) P Q it = (it.0, it.1)
