use Rattle.std.proofs.KnownBytes.{Appends-trans}
use Rattle.dcc_console.proofs.ending.end_with.Goals as goal

pub returns-in-Ok-clause-lines : goal.returns-in-Ok-clause-lines
returns-in-Ok-clause-lines g c = λ told. Appends-trans _ _ _ _ _ (c.end-ending.ensures.line told) (rw c.as_bytes.ensures.value at c.in-Ok.ensures.whole)
