use Rattle.std.proofs.Common.{ap}
use Rattle.dcc_test_stores.specs.Failing.{OnceView}
use Rattle.dcc_test_stores.proofs.once.OnceRecordsRecords.load.Goals as goal

pub returns-clause-found : goal.returns-clause-found
returns-clause-found c = let inner = ap (λ (v : OnceView). v.inner) c.self.view_is in rw (← inner) c.load.ensures.found

pub returns-clause-there : goal.returns-clause-there
returns-clause-there c = let inner = ap (λ (v : OnceView). v.inner) c.self.view_is in rw (← inner) c.load.ensures.there

pub returns-clause-same : goal.returns-clause-same
returns-clause-same c = let inner = ap (λ (v : OnceView). v.inner) c.self.view_is in rw (← inner) c.load.ensures.same
