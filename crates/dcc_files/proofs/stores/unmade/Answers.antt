use Rattle.dcc_files.proofs.stores.unmade.Goals as goal

pub returns : goal.returns
returns c = c.number.ensures
