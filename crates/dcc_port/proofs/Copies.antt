-- Copies of shards, one after another.
use Rattle.std.proofs.Common.{◌≡◌, ℕ, ◌+◌, ◌<◌, List, Result, Ok, Err, add-one, sym, subst}
use Rattle.dcc_shard.specs.Stored.{StoredView}
use Rattle.dcc_port.specs.Answers.{AreCopied, AreCopiedAs}
use Rattle.dcc_port.specs.Servers.{Rules}
use Rattle.dcc_port.specs.declared.backup.BackupEnd.TheVariants.{Uncopied}
use Rattle.dcc_port.specs.declared.port.CopyFault.{CopyFault}

-- one more copy
pub one_copied : {R S : Type 0} (rules : Rules S) (server : S) (folder : List ℕ) (index : ℕ) (told : Result (Unit {0}) CopyFault)
    → AreCopied R rules server folder index → (shard : StoredView R) → rules.copies server folder index told → told ≡ Ok tt
    → AreCopied R rules server folder (index + 1)
one_copied {R} rules server folder index told before shard copied is =
    subst (λ (n : ℕ). AreCopied R rules server folder n) (sym (add-one index))
    (before, (shard, subst (λ (t : Result (Unit {0}) CopyFault). rules.copies server folder index t) is copied))

-- a copy that failed
pub not_copied : {R S : Type 0} (rules : Rules S) (count : ℕ) (server : S) (folder : List ℕ) (index : ℕ) (told : Result (Unit {0}) CopyFault)
    {fault : CopyFault} → AreCopied R rules server folder index → index < count → (shard : StoredView R) → rules.copies server folder index told
    → told ≡ Err fault → AreCopiedAs R rules count folder server (Uncopied index)
not_copied {R} rules count server folder index told {fault} before within shard copied is =
    (before, within, (fault, (shard, subst (λ (t : Result (Unit {0}) CopyFault). rules.copies server folder index t) is copied)))
