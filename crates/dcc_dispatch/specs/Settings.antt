-- The plan and the identity by which messages are answered.
use Rattle.dcc_tariff.specs.Plans.{PlanView}
use Rattle.dcc_message.specs.declared.identity.Identity.{Identity}

-- the plan, and the server's names
pub record Setting : Type 0 where
  pub plan : PlanView
  pub identity : Identity
