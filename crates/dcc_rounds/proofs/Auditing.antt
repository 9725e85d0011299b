-- A worker audits at least as often as it is asked for an audit.
use Rattle.std.proofs.Common.{◌≡◌, ℕ, ◌≤◌, ◌<◌, ◌^◌, inl, inr, ◌∙◌, sym, ap, subst, arith}
use Rattle.dcc_rounds.specs.Handing.{one_more}
use Rattle.dcc_rounds.specs.Working.{KeepsCalls}
use Rattle.dcc_rounds.specs.declared.counter.CallCounter.{CallCounter}
use Rattle.dcc_rounds.specs.declared.worker.Due.{Due}
use Rattle.dcc_rounds.specs.inner.Auditing.{AsksOnce, AuditsIfDue}

one_more_keeps : (a b : ℕ) → a ≤ b → one_more a ≤ one_more b
one_more_keeps a b few = grind (arith)

one_more_is_more : (a : ℕ) → a < 2 ^ 64 → a ≤ one_more a
one_more_is_more a few = grind (arith)

one_more_is_number : (a : ℕ) → one_more a < 2 ^ 64
one_more_is_number a = grind (arith)

-- behind an item, a piece of a sweep and an audit, if it is due
pub audited_on : (first mid piece last : CallCounter) (due : Due) (kept : ℕ) → AsksOnce first mid → KeepsCalls mid piece → AuditsIfDue due kept piece last
    → due.asked ≡ first.asked → first.asked ≤ first.audits → first.audits < 2 ^ 64 → (last.asked ≤ last.audits) × (last.audits < 2 ^ 64)
audited_on first mid piece last due kept once keeps told is few most =
    let asked : last.asked ≡ mid.asked = told.0 ∙ keeps.1 in
    let audits : piece.audits ≡ first.audits = keeps.2 ∙ once.1 in
    let on = one_more_keeps first.asked first.audits few in
    let more = one_more_is_more first.audits most in
    elim told.1 [
      | inl one ↦ (
          let now : last.audits ≡ one_more first.audits = one ∙ ap one_more audits in
          let top = one_more_is_number first.audits in
          let behind : last.asked ≤ one_more first.audits = elim once.0 [
            | inl same ↦ omega (arith, asked, same, few, more)
            | inr once_more ↦ omega (arith, asked, once_more, on)
          ] in
          (subst (λ (n : ℕ). last.asked ≤ n) (sym now) behind, subst (λ (n : ℕ). n < 2 ^ 64) (sym now) top))
      | inr none ↦ (
          let same = none.1 in
          let now = none.2 in
          (omega (arith, told.0, same, is, now, audits, few), omega (arith, now, audits, most)))
    ]
