-- What a file's octets say of a plan.
use Rattle.std.proofs.Common.{◌≡◌, ℕ, List, Result, Ok, Err, inl, inr, refl, IfErr}
use Rattle.std.specs.Prelude.{IsErrAnd}
use Rattle.std.specs.Str.{IsUtf8, is_utf8}
use Rattle.std.proofs.lemmas.Str.{IsUtf8-from_is_utf8, is_utf8-from_IsUtf8}
use Rattle.std.proofs.lemmas.Bool.{cases_Bool}
use Rattle.dcc_tariff.specs.Plans.{PlanView}
use Rattle.dcc_tariff.specs.PlanTexts.{plan_of_text, Gives}
use Rattle.dcc_tariff.specs.declared.fault.PlanFault.{PlanFault}
use Rattle.dcc_tariff.specs.declared.fault.PlanFault.TheVariants.{NotToml, MissingKey, Range, BadMoment, Memory}
use Rattle.dcc_program.specs.declared.failure.Failure.{Failure}
use Rattle.dcc_program.specs.Failures.{of_plan}
use Rattle.dcc_program.specs.Plans.{plan_of_octets, IsRefusal}

pub plan_of_octets-text : (octets : List ℕ) → IsUtf8 octets → plan_of_octets octets ≡ plan_of_text octets
unfolding plan_of_octets
plan_of_octets-text octets text = rw (is_utf8-from_IsUtf8 octets text) refl

plan_of_octets-none : (octets : List ℕ) → (IsUtf8 octets → ⊥) → plan_of_octets octets ≡ Err NotToml
unfolding plan_of_octets
plan_of_octets-none octets none =
    elim (cases_Bool (is_utf8 octets)) [
      | inl is ↦ absurd (none (IsUtf8-from_is_utf8 octets is))
      | inr fails ↦ rw fails refl
    ]

pub no_text : (octets : List ℕ) (failure : Failure) → (IsUtf8 octets → ⊥) → failure ≡ of_plan NotToml
    → IsRefusal (plan_of_octets octets) failure
no_text octets failure none says = inr (NotToml, plan_of_octets-none octets none, says)

refused_by : (fault : PlanFault) (meant : Result PlanView PlanFault) (failure : Failure)
    → Gives (Err fault) meant → failure ≡ of_plan fault → IsRefusal meant failure
refused_by NotToml meant failure given says = inr (NotToml, given, says)
refused_by MissingKey meant failure given says = inr (MissingKey, given, says)
refused_by Range meant failure given says = inr (Range, given, says)
refused_by BadMoment meant failure given says = inr (BadMoment, given, says)
refused_by Memory meant failure given says = inl says

pub refused : (octets text : List ℕ) (fault : PlanFault) (r : Result PlanView Failure)
    → text ≡ octets → IsUtf8 octets → Gives (Err fault) (plan_of_text text)
    → IsErrAnd r (λ failure. failure ≡ of_plan fault) → IfErr r (IsRefusal (plan_of_octets octets))
refused octets text fault (Ok plan) same is given says = tt
refused octets text fault (Err failure) same is given says =
    rw (plan_of_octets-text octets is) (rw (← same) (refused_by fault (plan_of_text text) failure given says))
