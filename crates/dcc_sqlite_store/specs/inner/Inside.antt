-- What a statement inside a transaction leaves, if the disk has returned what was written.
use Rattle.std.specs.Prelude.{IsTrue, Result, OnOk}
use Rattle.sqlite.specs.State.{State, HasCleanDisk, KeepsCommit}

-- after Ok the transaction goes on
abbrev pub GoesOn : {T E : Type 0} → Result T E → State → State → Type 0
GoesOn result old new = HasCleanDisk new → IsTrue old.in_transaction → OnOk result (IsTrue new.in_transaction)

-- the last commit stays
abbrev pub CommitStays : State → State → Type 0
CommitStays old new = HasCleanDisk new → IsTrue old.in_transaction → KeepsCommit old new
