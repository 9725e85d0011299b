-- Which services a request names.
use Rattle.std.proofs.Common.{◌≡◌, Bool, true, false, ◌||◌, ◌&&◌, List, [], ◌∷◌, map, refl, ap, ◌∙◌, inl, inr}
use Rattle.std.specs.Prelude.{is_some}
use Rattle.std.specs.List.{list_any}
use Rattle.std.proofs.lemmas.Bool.{cases_Bool}
use Rattle.dcc_act.specs.ServiceKeys.{same_service}
use Rattle.dcc_act.specs.Services.{ServiceView, service_key}
use Rattle.dcc_act.specs.declared.service_key.ServiceKey.{ServiceKey}
use Rattle.dcc_model.specs.Sessions.{is_named, named, without_report, without_asked}
use Rattle.dcc_model.specs.inner.Lookback.{asks_for, reports_of}

-- a request without reports names a service of this key where one asks for units that has it
pub asked_any : (key : ServiceKey) (services : List ServiceView)
    → list_any (same_service key) (named (map without_report services)) ≡ list_any (asks_for key) services
asked_any key [] = refl
asked_any key (service ∷ services) =
    elim (cases_Bool (is_some service.asked)) [
      | inl t ↦ rw (t, asked_any key services) refl
      | inr f ↦ rw (f, asked_any key services) refl
    ]

-- and one that asks for nothing where one reports some
pub used_any : (key : ServiceKey) (services : List ServiceView)
    → list_any (same_service key) (named (map without_asked services)) ≡ list_any (reports_of key) services
used_any key [] = refl
used_any key (service ∷ services) =
    elim (cases_Bool (is_some service.used)) [
      | inl t ↦ rw (t, used_any key services) refl
      | inr f ↦ rw (f, used_any key services) refl
    ]

joined : (a u k x y : Bool) → (((a || u) && k) || (x || y)) ≡ (((a && k) || x) || ((u && k) || y))
joined true true true x y = refl
joined true true false true y = refl
joined true true false false y = refl
joined true false true x y = refl
joined true false false true y = refl
joined true false false false y = refl
joined false true true true y = refl
joined false true true false y = refl
joined false true false true y = refl
joined false true false false y = refl
joined false false k true y = refl
joined false false k false y = refl

named_more : (key : ServiceKey) (service : ServiceView) (services : List ServiceView)
    → list_any (same_service key) (named (service ∷ services)) ≡ ((is_named service && same_service key (service_key service)) || list_any (same_service key) (named services))
named_more key service services =
    elim (cases_Bool (is_named service)) [ inl t ↦ rw t refl | inr f ↦ rw f refl ]

-- any other where there is one or the other
pub named_any : (key : ServiceKey) (services : List ServiceView)
    → list_any (same_service key) (named services) ≡ (list_any (asks_for key) services || list_any (reports_of key) services)
named_any key [] = refl
named_any key (service ∷ services) =
    named_more key service services ∙ ap (λ (rest : Bool). (is_named service && same_service key (service_key service)) || rest) (named_any key services) ∙ joined (is_some service.asked) (is_some service.used) (same_service key (service_key service)) (list_any (asks_for key) services) (list_any (reports_of key) services)
