use Rattle.dcc_sqlite_rows.proofs.line.read_body.Goals as goal

pub returns-in-One-clause-refused : goal.returns-in-One-clause-refused
returns-in-One-clause-refused c = rw c.in-One.is c.read_act_1.ensures.refused

pub returns-in-Two-clause-refused : goal.returns-in-Two-clause-refused
returns-in-Two-clause-refused c = rw c.in-Two.is c.read_act.ensures.refused
