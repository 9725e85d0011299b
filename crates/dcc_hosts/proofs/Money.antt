-- Charges, funds and what is free look at no host.
use Rattle.std.proofs.Common.{◌≡◌, ℕ, ◌+◌, ◌-◌, ℤ, pos, ◌+ℤ◌, ◌-ℤ◌, not, List, [], ◌∷◌, filter, sum_by, Option, refl, ap, ◌∙◌, option_map, option_and_then}
use Rattle.std.specs.Prelude.{unwrap_or}
use Rattle.std.specs.Option.{option_or, option_map_or}
use Rattle.dcc_tariff.specs.Prices.{price}
use Rattle.dcc_tariff.specs.Terms.{TermsView}
use Rattle.dcc_act.specs.Services.{ServiceView, service_key}
use Rattle.dcc_act.specs.declared.grant.Grant.{Grant}
use Rattle.dcc_act.specs.declared.outcome.ServiceAnswer.{ServiceAnswer}
use Rattle.dcc_act.specs.declared.service_key.ServiceKey.{ServiceKey}
use Rattle.dcc_model.specs.declared.done.Done.{Done}
use Rattle.dcc_model.specs.Sessions.{Sid, Live, lives, looked_at, accepted_by}
use Rattle.dcc_model.specs.Money.{grant_price, charge, charges, overruns, credit, debit, charged, overran, funds_of, overrun_of, held_price, reserved_of, free_of, is_replaced, made_price, room}
use Rattle.dcc_hosts.proofs.Blind.{blind, without}
use Rattle.dcc_hosts.proofs.Sessions.{live_same, lives_same}

-- the live grants of sessions and services
abbrev Grants : Type 0
Grants = Sid → ServiceKey → Option Grant

-- the charge for a service's report, by them
abbrev charge_by : Grants → Sid → ServiceView → Option ℕ
charge_by grants sid service =
    option_and_then (λ units. option_map (λ tariff. price tariff units) (option_or (option_map (λ (grant : Grant). grant.tariff) (grants sid (service_key service))) service.tariff)) service.used

pub charge_same : (terms : TermsView) (past : List Done) → charge terms (without past) ≡ charge terms past
charge_same terms past = ap (λ (grants : Grants). charge_by grants) (live_same terms past)

abbrev charges_by : Grants → Sid → List ServiceView → ℕ
charges_by grants sid services = sum_by (λ service. unwrap_or (charge_by grants sid service) 0) services

pub charges_same : (terms : TermsView) (past : List Done) → charges terms (without past) ≡ charges terms past
charges_same terms past = ap (λ (grants : Grants). charges_by grants) (live_same terms past)

abbrev overruns_by : Grants → Sid → List ServiceView → ℕ
overruns_by grants sid services =
    sum_by (λ service. unwrap_or (charge_by grants sid service) 0 - option_map_or grant_price (grants sid (service_key service)) 0) services

overruns_same : (terms : TermsView) (past : List Done) → overruns terms (without past) ≡ overruns terms past
overruns_same terms past = ap (λ (grants : Grants). overruns_by grants) (live_same terms past)

-- a sum of an accepted request's services
abbrev accepted_sum : (Sid → List ServiceView → ℕ) → Done → ℕ
accepted_sum by done = option_map_or (λ sid. by sid (looked_at done.act.kind)) (accepted_by done.act.kind done.outcome) 0

pub funds_same : (terms : TermsView) (past : List Done) → funds_of terms (without past) ≡ funds_of terms past
funds_same terms [] = refl
funds_same terms (done ∷ past) =
    let added = pos (credit done.act.kind done.outcome) in
    let taken = debit done.act.kind done.outcome in
    blind (λ (d : Done). funds_of terms (d ∷ without past)) (λ moment outcome opening limit host. refl) done
    ∙ ap (λ (by : Sid → List ServiceView → ℕ). (funds_of terms (without past) +ℤ added) -ℤ pos (taken + accepted_sum by done)) (charges_same terms past)
    ∙ ap (λ (before : ℤ). (before +ℤ added) -ℤ pos (taken + charged terms past done)) (funds_same terms past)

pub overrun_same : (terms : TermsView) (past : List Done) → overrun_of terms (without past) ≡ overrun_of terms past
overrun_same terms [] = refl
overrun_same terms (done ∷ past) =
    blind (λ (d : Done). overrun_of terms (d ∷ without past)) (λ moment outcome opening limit host. refl) done
    ∙ ap (λ (by : Sid → List ServiceView → ℕ). overrun_of terms (without past) + accepted_sum by done) (overruns_same terms past)
    ∙ ap (λ (before : ℕ). before + overran terms past done) (overrun_same terms past)

pub free_same : (terms : TermsView) (past : List Done) → free_of terms (without past) ≡ free_of terms past
free_same terms past =
    ap (λ (funds : ℤ). funds -ℤ pos (reserved_of terms (without past))) (funds_same terms past)
    ∙ ap (λ (helds : List Live). funds_of terms past -ℤ pos (sum_by held_price helds)) (lives_same terms past)

-- the money for the next grant, by the funds, the charges and the live grants
abbrev room_by : ℤ → (Sid → List ServiceView → ℕ) → List Live → Sid → List ServiceView → List ServiceAnswer → ℤ
room_by funds by helds sid services before =
    funds -ℤ pos (by sid services + sum_by held_price (filter (λ held. not (is_replaced sid services held)) helds) + sum_by made_price before)

pub room_same : (terms : TermsView) (past : List Done) → room terms (without past) ≡ room terms past
room_same terms past =
    ap (λ (funds : ℤ). room_by funds (charges terms (without past)) (lives terms (without past))) (funds_same terms past)
    ∙ ap (λ (by : Sid → List ServiceView → ℕ). room_by (funds_of terms past) by (lives terms (without past))) (charges_same terms past)
    ∙ ap (λ (helds : List Live). room_by (funds_of terms past) (charges terms past) helds) (lives_same terms past)
