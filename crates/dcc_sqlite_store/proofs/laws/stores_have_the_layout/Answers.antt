use Rattle.dcc_sqlite_store.proofs.Layouts.{has_layout}
use Rattle.dcc_sqlite_store.proofs.laws.stores_have_the_layout.Goals as goal

pub returns : goal.returns
returns c = has_layout
