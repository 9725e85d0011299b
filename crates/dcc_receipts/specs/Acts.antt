-- Whether two acts are equal, field by field.
use Rattle.std.specs.Prelude.{◌≡◌, ◌↔◌, ℕ, Bool, true, false, ◌&&◌, ◌==◌, bytes_eq, List, [], ◌∷◌, Option, Some, None}
use Rattle.std.specs.Cmp.Lexicographic.{pointwise}
use Rattle.dcc_tariff.specs.Terms.{TariffView}
use Rattle.dcc_tariff.specs.declared.tariff.UnitKind.{UnitKind}
use Rattle.dcc_tariff.specs.declared.tariff.UnitKind.TheVariants.{Octets, Time, Units}
use Rattle.dcc_act.specs.declared.act.Act.{Act}
use Rattle.dcc_act.specs.declared.act.Kind.{Kind}
use Rattle.dcc_act.specs.declared.act.Kind.TheVariants.{TopUp, Initial, Update, Termination, Event, Expiry}
use Rattle.dcc_act.specs.declared.one_time_event.Action.{Action}
use Rattle.dcc_act.specs.declared.one_time_event.Action.TheVariants.{DirectDebiting, RefundAccount, CheckBalance, PriceEnquiry}
use Rattle.dcc_act.specs.declared.request_key.RequestKey.{RequestKey}
use Rattle.dcc_act.specs.declared.service.Form.{Form}
use Rattle.dcc_act.specs.declared.service.Form.TheVariants.{Single, Multi}
use Rattle.dcc_act.specs.declared.session_limit.SessionLimit.{SessionLimit}
use Rattle.dcc_act.specs.declared.session_limit.SessionLimit.TheVariants.{Few, Many}
use Rattle.dcc_act.specs.declared.session_request.SessionRequest.{SessionRequest}
use Rattle.dcc_act.specs.OneTimeEvents.{OneTimeEventView}
use Rattle.dcc_act.specs.ServiceKeys.{same_number}
use Rattle.dcc_act.specs.Services.{ServiceView}

abbrev pub same_unit : UnitKind → UnitKind → Bool
same_unit Octets Octets = true
same_unit Time Time = true
same_unit Units Units = true
same_unit _ _ = false

abbrev pub same_units : Option UnitKind → Option UnitKind → Bool
same_units None None = true
same_units (Some a) (Some b) = same_unit a b
same_units _ _ = false

abbrev pub same_tariffs : Option TariffView → Option TariffView → Bool
same_tariffs None None = true
same_tariffs (Some a) (Some b) = (a.price == b.price) && (a.block == b.block)
same_tariffs _ _ = false

abbrev pub same_form : Form → Form → Bool
same_form Single Single = true
same_form Multi Multi = true
same_form _ _ = false

abbrev pub same_action : Action → Action → Bool
same_action DirectDebiting DirectDebiting = true
same_action RefundAccount RefundAccount = true
same_action CheckBalance CheckBalance = true
same_action PriceEnquiry PriceEnquiry = true
same_action _ _ = false

abbrev pub same_service : ServiceView → ServiceView → Bool
same_service a b =
    same_number a.group b.group && (bytes_eq a.ids b.ids && (same_form a.form b.form && (same_number a.asked b.asked
    && (same_number a.used b.used && (same_units a.unit b.unit && same_tariffs a.tariff b.tariff)))))

abbrev pub same_key : RequestKey → RequestKey → Bool
same_key a b = bytes_eq a.sid b.sid && (a.number == b.number)

abbrev pub same_request : SessionRequest → SessionRequest → Bool
same_request a b = same_key a.key b.key && pointwise same_service a.services b.services

abbrev pub same_limit : SessionLimit → SessionLimit → Bool
same_limit Few Few = true
same_limit Many Many = true
same_limit _ _ = false

abbrev pub same_host : Option (List ℕ) → Option (List ℕ) → Bool
same_host None None = true
same_host (Some a) (Some b) = bytes_eq a b
same_host _ _ = false

abbrev pub same_event : OneTimeEventView → OneTimeEventView → Bool
same_event a b = same_key a.key b.key && (same_action a.action b.action && same_service a.service b.service)

abbrev pub same_kind : Kind → Kind → Bool
same_kind (TopUp a) (TopUp b) = (a.ticket == b.ticket) && (a.amount == b.amount)
same_kind (Initial a a_limit a_host) (Initial b b_limit b_host) =
    same_request a b && (same_limit a_limit b_limit && same_host a_host b_host)
same_kind (Update a) (Update b) = same_request a b
same_kind (Termination a) (Termination b) = same_request a b
same_kind (Event a) (Event b) = same_event a b
same_kind Expiry Expiry = true
same_kind _ _ = false

-- whether two acts are equal: their moments, and all fields of their kinds
abbrev pub same_act : Act → Act → Bool
same_act a b = (a.moment == b.moment) && same_kind a.kind b.kind

-- two acts agree field by field exactly if they are equal
abbrev pub SameActsAreEqual : Type 0
SameActsAreEqual = (a b : Act) → (same_act a b ≡ true) ↔ (a ≡ b)
