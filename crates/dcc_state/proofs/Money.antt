-- What a change does to the money is what its act did by the definitions.
use Rattle.std.proofs.Common.{◌≡◌, ℕ, ◌+◌, ℤ, pos, ◌+ℤ◌, ◌-ℤ◌, List, [], ◌∷◌, map, refl, inl, inr, arith}
use Rattle.std.proofs.lemmas.Bool.{cases_Bool}
use Rattle.std.proofs.lemmas.Int.{ints}
use Rattle.std.proofs.lemmas.List.Sums.{sum_by-cons}
use Rattle.dcc_tariff.specs.Terms.{TermsView}
use Rattle.dcc_act.specs.Services.{ServiceView}
use Rattle.dcc_act.specs.declared.act.Kind.{Kind}
use Rattle.dcc_act.specs.declared.act.Kind.TheVariants as kind
use Rattle.dcc_act.specs.declared.outcome.Outcome.{Outcome}
use Rattle.dcc_model.specs.Money.{credit, debit}
use Rattle.dcc_model.specs.Results.{succeeded, refused}
use Rattle.dcc_model.specs.Sessions.{without_report}
use Rattle.dcc_session.specs.declared.held.Held.{Held}
use Rattle.dcc_session.specs.Grants.{cost_in, overrun_in, charges_in, overruns_in}
use Rattle.dcc_state.specs.Known.{funds_after, overrun_with}
use Rattle.dcc_state.specs.OpenSessions.{SessionView, own_in}
use Rattle.dcc_state.specs.inner.Judged.{charged_in, overran_in, change_of}

-- nothing is charged where nothing is reported
pub no_charges : (own : List Held) (services : List ServiceView) → charges_in own (map without_report services) ≡ 0
no_charges own [] = refl
no_charges own (service ∷ services) =
    let rest = no_charges own services in
    let more = sum_by-cons (cost_in own) (without_report service) (map without_report services) in
    omega arith

no_overruns : (own : List Held) (services : List ServiceView) → overruns_in own (map without_report services) ≡ 0
no_overruns own [] = refl
no_overruns own (service ∷ services) =
    let rest = no_overruns own services in
    let more = sum_by-cons (overrun_in own) (without_report service) (map without_report services) in
    omega arith

-- the funds after a change are those before with what its act credits, less what it debits and charges
pub funds_with : (terms : TermsView) (sessions : List SessionView) (funds : ℤ) (moment : ℕ) (k : Kind) (outcome : Outcome)
    → funds_after (change_of terms sessions moment k outcome) funds sessions ≡ (funds +ℤ pos (credit k outcome)) -ℤ pos (debit k outcome + charged_in sessions k outcome)
funds_with terms sessions funds moment (kind.TopUp top_up) outcome = omega (arith, ints)
funds_with terms sessions funds moment (kind.Event event) outcome = omega (arith, ints)
funds_with terms sessions funds moment kind.Expiry outcome = omega (arith, ints)
funds_with terms sessions funds moment (kind.Initial opening limit host) outcome =
    elim (cases_Bool (succeeded outcome)) [
      | inl t ↦ let nothing = no_charges (own_in sessions opening.key.sid) opening.services in rw t (omega (arith, ints))
      | inr f ↦ rw f (omega (arith, ints))
    ]
funds_with terms sessions funds moment (kind.Update report) outcome =
    elim (cases_Bool (refused outcome)) [
      | inl t ↦ rw t (omega (arith, ints))
      | inr f ↦ elim (cases_Bool (succeeded outcome)) [ inl t ↦ rw (f, t) (omega (arith, ints)) | inr g ↦ rw (f, g) (omega (arith, ints)) ]
    ]
funds_with terms sessions funds moment (kind.Termination report) outcome =
    elim (cases_Bool (refused outcome)) [ inl t ↦ rw t (omega (arith, ints)) | inr f ↦ rw f (omega (arith, ints)) ]

-- and what it charges beyond what was held is what its act overran
pub overrun_is : (terms : TermsView) (sessions : List SessionView) (moment : ℕ) (k : Kind) (outcome : Outcome)
    → overrun_with (change_of terms sessions moment k outcome) sessions ≡ overran_in sessions k outcome
overrun_is terms sessions moment (kind.TopUp top_up) outcome = refl
overrun_is terms sessions moment (kind.Event event) outcome = refl
overrun_is terms sessions moment kind.Expiry outcome = refl
overrun_is terms sessions moment (kind.Initial opening limit host) outcome =
    elim (cases_Bool (succeeded outcome)) [
      | inl t ↦ rw t (no_overruns (own_in sessions opening.key.sid) opening.services)
      | inr f ↦ rw f refl
    ]
overrun_is terms sessions moment (kind.Update report) outcome =
    elim (cases_Bool (refused outcome)) [
      | inl t ↦ rw t refl
      | inr f ↦ elim (cases_Bool (succeeded outcome)) [ inl t ↦ rw (f, t) refl | inr g ↦ rw (f, g) refl ]
    ]
overrun_is terms sessions moment (kind.Termination report) outcome =
    elim (cases_Bool (refused outcome)) [ inl t ↦ rw t refl | inr f ↦ rw f refl ]
