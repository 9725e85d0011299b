use Rattle.std.proofs.Common.{inl, ap, ◌∙◌}
use Rattle.dcc_store.specs.Memory.{content_of}
use Rattle.dcc_test_stores.specs.Failing.{OnceView}
use Rattle.dcc_test_stores.proofs.once.OnceRecordsRecords.append_all.Goals as goal

pub returns-then-self-clause-crash : goal.returns-then-self-clause-crash
returns-then-self-clause-crash c = λ held only found left. inl (only found left)

pub returns-then-self-eq1-clause-crash : goal.returns-then-self-eq1-clause-crash
returns-then-self-eq1-clause-crash c = λ held only found left. inl (only found (λ sub. left sub ∙ ap (λ (v : OnceView). content_of v.inner sub) c.self.view_is))

pub returns-clause-stored : goal.returns-clause-stored
returns-clause-stored c = let inner = ap (λ (v : OnceView). v.inner) c.self.view_is in rw (← inner) c.append_all.ensures.stored

pub returns-clause-crash : goal.returns-clause-crash
returns-clause-crash c = let inner = ap (λ (v : OnceView). v.inner) c.self.view_is in rw (← inner) c.append_all.ensures.crash

pub returns-clause-refused : goal.returns-clause-refused
returns-clause-refused c = let inner = ap (λ (v : OnceView). v.inner) c.self.view_is in rw (c.if-self.false, ← inner) c.append_all.ensures.refused
