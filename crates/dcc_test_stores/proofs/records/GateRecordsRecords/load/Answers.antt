use Rattle.std.proofs.Common.{ap}
use Rattle.dcc_test_stores.specs.Gated.{GateView}
use Rattle.dcc_test_stores.proofs.records.GateRecordsRecords.load.Goals as goal

pub returns-clause-found : goal.returns-clause-found
returns-clause-found c = let inner = ap (λ (v : GateView). v.inner) c.self.view_is in rw (← inner) c.load.ensures.found

pub returns-clause-there : goal.returns-clause-there
returns-clause-there c = let inner = ap (λ (v : GateView). v.inner) c.self.view_is in rw (← inner) c.load.ensures.there

pub returns-clause-same : goal.returns-clause-same
returns-clause-same c = let inner = ap (λ (v : GateView). v.inner) c.self.view_is in rw (← inner) c.load.ensures.same
