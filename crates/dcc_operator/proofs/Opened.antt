-- The shard that a command opens for its subscriber.
use Rattle.std.proofs.Common.{◌≡◌, ◌≢◌, ◌∙◌, ◌⊎◌, inl, inr, ℕ, Bool, [], Option, Some, sym, subst}
use Rattle.dcc_store.specs.Contents.{Content}
use Rattle.dcc_startup.specs.Openings.{IsFaultOver}
use Rattle.std.specs.Prelude.{IfSome}
use Rattle.dcc_tariff.specs.Plans.{PlanView}
use Rattle.dcc_message.specs.declared.identity.Identity.{Identity}
use Rattle.dcc_act.specs.declared.sub.Sub.{Sub}
use Rattle.dcc_shard.specs.Routes.{shard_of}
use Rattle.dcc_shard.specs.Shards.{ShardView, held, AreOwn}
use Rattle.dcc_operator.specs.declared.fault.OperatorFault.{OperatorFault}
use Rattle.dcc_operator.specs.declared.fault.OperatorFault.TheVariants.{Memory as OutOfMemory, Output, Store}
use Rattle.dcc_operator.specs.Commands.{IsOpenedFor}

pub of_found : {A : Type 0} (P : A → Type 0) (found : Option A) (records : A) → found ≡ Some records → IfSome found P → P records
of_found {A} P found records is given = subst (λ (o : Option A). IfSome o P) is given

pub opened_for : (plan : PlanView) (identity : Identity) (sub : Sub) (shard : ShardView) (count index : ℕ)
    → shard.terms ≡ plan.terms → shard.identity ≡ identity → AreOwn shard → count ≡ plan.shards → index ≡ shard_of sub count
    → ((other : Sub) → held shard other ≢ [] → shard_of other count ≡ index) → IsOpenedFor plan identity sub shard
opened_for plan identity sub shard count index terms named own counted at placed = record {
  terms = terms;
  identity_is = named;
  own = own;
  placed = λ other some. subst (λ (shards : ℕ). shard_of other shards ≡ shard_of sub shards) counted (placed other some ∙ at);
}

pub moved : {R : Type 0} (may_leave : R → Content → Type 0) (is_stopped : R → Bool) (records : R) {a b c d m n : ℕ} → a ≡ b → c ≡ d → m ≡ n
    → IsFaultOver may_leave is_stopped records a c m → IsFaultOver may_leave is_stopped records b d n
moved may_leave is_stopped records {a} {b} {c} {d} {m} {n} p q r it =
    subst (λ (k : ℕ). IsFaultOver may_leave is_stopped records b d k) r (subst (λ (k : ℕ). IsFaultOver may_leave is_stopped records b k m) q (subst (λ (k : ℕ). IsFaultOver may_leave is_stopped records k c m) p it))

-- what writing tells is no fault of a store
pub no_store : (fault : OperatorFault) (number : ℕ) → (fault ≡ OutOfMemory) ⊎ (fault ≡ Output) → fault ≡ Store number → ⊥
no_store fault number (inl memory) is = let e = sym memory ∙ is in cc
no_store fault number (inr output) is = let e = sym output ∙ is in cc

pub same_number : (fault : OperatorFault) (m n : ℕ) → fault ≡ Store m → fault ≡ Store n → m ≡ n
same_number fault m n p q = let e : Store m ≡ Store n = sym p ∙ q in cc
