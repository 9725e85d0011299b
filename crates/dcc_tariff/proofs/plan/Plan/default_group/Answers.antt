use Rattle.dcc_tariff.proofs.PlanLemmas.{unit_of-some}
use Rattle.dcc_tariff.proofs.plan.Plan.default_group.Goals as goal

pub returns-clause-in_plan : goal.returns-clause-in_plan
returns-clause-in_plan c = rw (← c.self.view_is) (unit_of-some _ c.self.inside.default_group c.self.invariant.default_group)
