use Rattle.dcc_program.proofs.storing.page.Goals as goal

pub returns-clause-whole : goal.returns-clause-whole
returns-clause-whole g c = c.page_under-done.ensures.whole _ c.in_ok-plan.ensures.plan

pub returns-clause-failure : goal.returns-clause-failure
returns-clause-failure g c = c.page_under-done.ensures.failure _ c.in_ok-plan.ensures.plan

pub returns-clause-part : goal.returns-clause-part
returns-clause-part g c = c.page_under-done.ensures.part _ c.in_ok-plan.ensures.plan
