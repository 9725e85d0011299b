-- Keys of services.
use Rattle.std.proofs.Common.{◌≡◌, Bool, ◌||◌, List, [], ◌∷◌, map, refl, ap}
use Rattle.std.specs.List.{list_any}
use Rattle.dcc_act.specs.declared.service_key.ServiceKey.{ServiceKey}
use Rattle.dcc_act.specs.Services.{ServiceView, service_key}
use Rattle.dcc_act.specs.ServiceKeys.{same_service}

-- a key is among those of services where one of them has it
pub any_key : (key : ServiceKey) (services : List ServiceView)
    → list_any (same_service key) (map service_key services) ≡ list_any (λ other. same_service key (service_key other)) services
any_key key [] = refl
any_key key (service ∷ services) = ap (λ (rest : Bool). same_service key (service_key service) || rest) (any_key key services)
