use Rattle.dcc_files.proofs.stores.unopened.Goals as goal

pub returns-in-Empty-clause-none : goal.returns-in-Empty-clause-none
returns-in-Empty-clause-none c = c.in-Empty.is

pub returns-in_default-clause-some : goal.returns-in_default-clause-some
returns-in_default-clause-some c = (c.number.ensures, c.in_default.not-Empty)
