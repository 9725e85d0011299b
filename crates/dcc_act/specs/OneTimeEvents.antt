-- One-time events, as a contract sees them.
use Rattle.std.specs.Prelude.{◌≡◌, true, is_some}
use Rattle.dcc_act.specs.declared.one_time_event.Action.{Action}
use Rattle.dcc_act.specs.declared.request_key.RequestKey.{RequestKey}
use Rattle.dcc_act.specs.Services.{ServiceView}

-- a request's key, its action, and its service, which asks for units
pub record OneTimeEventView : Type 0 where
  pub key : RequestKey
  pub action : Action
  pub service : ServiceView

-- a service has a number of units that it asks for
abbrev pub AsksUnits : ServiceView → Type 0
AsksUnits service = is_some service.asked ≡ true
