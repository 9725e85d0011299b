-- The identity of the server that a plan names.
use Rattle.dcc_tariff.specs.Plans.{PlanView}
use Rattle.dcc_message.specs.declared.identity.Identity.{Identity}

abbrev pub identity_of : PlanView → Identity
identity_of plan = record { host = plan.host; realm = plan.realm; address = plan.address }
