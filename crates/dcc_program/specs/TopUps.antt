-- `dcc topup --from`: the top-ups of a text, under the plan of a file.
use Rattle.std.specs.Prelude.{⊤, ◌≡◌, ◌⊎◌, ℕ, ◌==◌, List, [], filter, Option, IfSome, Ok, Err}
use Prim.Native.Nat.{zero, suc}
use Rattle.dcc_tariff.specs.Plans.{PlanView}
use Rattle.dcc_tariff.specs.Terms.{TermsView}
use Rattle.dcc_message.specs.declared.identity.Identity.{Identity}
use Rattle.dcc_store.specs.Contents.{Content}
use Rattle.dcc_shard.specs.Routes.{shard_of}
use Rattle.dcc_operator.specs.declared.commands.TopUpAsk.{TopUpAsk}
use Rattle.dcc_operator.specs.Lines.{asks_of}
use Rattle.dcc_operator.specs.Many.{AreToppedUpIn}
use Rattle.dcc_replay.specs.Names.{identity_of}
use Rattle.dcc_program.specs.declared.failure.Failure.{Failure}
use Rattle.dcc_program.specs.declared.failure.Failure.TheVariants.{Usage, Memory, Io, Plan, Store, Script, Close}
use Rattle.dcc_program.specs.Plans.{IsPlanOf, IsPlanFailure}

-- the top-ups of the subscribers of one shard, of so many, in the order of the text
abbrev pub own_asks : (count index : ℕ) → List TopUpAsk → List TopUpAsk
own_asks count index asks = filter (λ ask. shard_of ask.sub count == index) asks

-- The top-ups of one shard's subscribers are made in its store, and their lines are written. If there is none, no store is opened, and nothing is
-- written.
abbrev pub AreMadeIn : {R : Type 0} → (opens : ℕ → R → Type 0) → (R → Content → Type 0) → TermsView → Identity → (count : ℕ) → List TopUpAsk → (index : ℕ)
    → (old new : Option (List ℕ)) → Type 0
AreMadeIn opens may_leave terms identity count asks index old new = ((own_asks count index asks ≡ []) × (new ≡ old))
    ⊎ AreToppedUpIn opens may_leave terms identity count index (own_asks count index asks) old new

-- the same of the first shards, one after another
abbrev pub AreMadeUpTo : (ℕ → Option (List ℕ) → Option (List ℕ) → Type 0) → ℕ → (old new : Option (List ℕ)) → Type 0
AreMadeUpTo made zero old new = new ≡ old
AreMadeUpTo made (suc index) old new = (mid : Option (List ℕ)) × AreMadeUpTo made index old mid × made index mid new

-- The top-ups of a text are made under the plan of a file, shard by shard, at the moment of the command if their lines have none.
pub record AreMade {R : Type 0} (opens : PlanView → ℕ → R → Type 0) (may_leave : R → Content → Type 0) (file text : Option (List ℕ)) (now : ℕ) (old new : Option (List ℕ))
    : Type 0 where
  pub plan : PlanView
  pub given : IsPlanOf file plan
  pub asks : List TopUpAsk
  pub read : IfSome text (λ octets. asks_of now octets ≡ Ok asks)
  pub made : AreMadeUpTo (AreMadeIn (opens plan) may_leave plan.terms (identity_of plan) plan.shards asks) plan.shards old new

-- a failure of a store, of memory or of the output
abbrev pub IsStoreEnd : Failure → Type 0
IsStoreEnd Usage = ⊥
IsStoreEnd Memory = ⊤
IsStoreEnd Io = ⊤
IsStoreEnd (Plan number) = ⊥
IsStoreEnd (Store number) = ⊤
IsStoreEnd (Script line) = ⊥
IsStoreEnd (Close number) = ⊥

-- the failures of the command: the plan's; the text's, by its first line without a top-up; or a store's; or memory, input or output
abbrev pub IsTopUpsFailure : (file text : Option (List ℕ)) → ℕ → Failure → Type 0
IsTopUpsFailure file text now Usage = ⊥
IsTopUpsFailure file text now Memory = ⊤
IsTopUpsFailure file text now Io = ⊤
IsTopUpsFailure file text now (Plan number) = IsPlanFailure file (Plan number)
IsTopUpsFailure file text now (Store number) = (plan : PlanView) × IsPlanOf file plan
IsTopUpsFailure file text now (Script line) = IfSome text (λ octets. asks_of now octets ≡ Err line)
IsTopUpsFailure file text now (Close number) = ⊥
