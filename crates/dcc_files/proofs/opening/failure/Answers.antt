use Rattle.std.proofs.Common.{inl, inr, refl}
use Rattle.dcc_files.proofs.opening.failure.Goals as goal

pub returns-in-Memory-clause-memory : goal.returns-in-Memory-clause-memory
returns-in-Memory-clause-memory c _ = refl

pub returns-in-Memory-clause-others : goal.returns-in-Memory-clause-others
returns-in-Memory-clause-others c other = absurd (other c.in-Memory.is)

pub returns-in-Memory-clause-either : goal.returns-in-Memory-clause-either
returns-in-Memory-clause-either c = inl refl

pub returns-in_default-clause-memory : goal.returns-in_default-clause-memory
returns-in_default-clause-memory c is = absurd (c.in_default.not-Memory is)

pub returns-in_default-clause-others : goal.returns-in_default-clause-others
returns-in_default-clause-others c _ = refl

pub returns-in_default-clause-either : goal.returns-in_default-clause-either
returns-in_default-clause-either c = inr refl
