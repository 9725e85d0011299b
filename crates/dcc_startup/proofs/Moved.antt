-- The cause of a fault, under equal indexes and numbers.
use Rattle.std.proofs.Common.{◌≡◌, ℕ, Bool, subst}
use Rattle.dcc_store.specs.Contents.{Content}
use Rattle.dcc_startup.specs.Openings.{IsFaultOver}

pub moved : {R : Type 0} (may_leave : R → Content → Type 0) (is_stopped : R → Bool) (records : R) {a b c d m n : ℕ} → a ≡ b → c ≡ d → m ≡ n
    → IsFaultOver may_leave is_stopped records a c m → IsFaultOver may_leave is_stopped records b d n
moved may_leave is_stopped records {a} {b} {c} {d} {m} {n} p q r it =
    subst (λ (k : ℕ). IsFaultOver may_leave is_stopped records b d k) r (subst (λ (k : ℕ). IsFaultOver may_leave is_stopped records b k m) q (subst (λ (k : ℕ). IsFaultOver may_leave is_stopped records k c m) p it))
