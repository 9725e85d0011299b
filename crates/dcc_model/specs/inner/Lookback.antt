-- Tests that the plain program makes, act by act and service by service.
use Rattle.std.specs.Prelude.{ℕ, Bool, false, ◌&&◌, nat_le, List, is_some}
use Rattle.std.specs.Option.{option_map_or}
use Rattle.dcc_tariff.specs.Terms.{TermsView}
use Rattle.dcc_act.specs.ServiceKeys.{same_service}
use Rattle.dcc_act.specs.Services.{ServiceView, service_key}
use Rattle.dcc_act.specs.declared.service_key.ServiceKey.{ServiceKey}
use Rattle.dcc_model.specs.declared.done.Done.{Done}
use Rattle.dcc_model.specs.Sessions.{Sid, opens_by, is_open, deadline}

-- an act opened a session that is open
abbrev pub opened_one : TermsView → List Done → Done → Bool
opened_one terms past done = option_map_or (is_open terms past) (opens_by done.act.kind done.outcome) false

-- a session is open and due at the moment
abbrev pub is_expired : TermsView → List Done → ℕ → Sid → Bool
is_expired terms past moment sid = is_open terms past sid && nat_le (deadline terms past sid) moment

-- an act opened a session that is open and due at the moment
abbrev pub opened_expired : TermsView → List Done → ℕ → Done → Bool
opened_expired terms past moment done = option_map_or (is_expired terms past moment) (opens_by done.act.kind done.outcome) false

-- a service of this key asks for units
abbrev pub asks_for : ServiceKey → ServiceView → Bool
asks_for key service = is_some service.asked && same_service key (service_key service)

-- a service of this key reports units
abbrev pub reports_of : ServiceKey → ServiceView → Bool
reports_of key service = is_some service.used && same_service key (service_key service)
