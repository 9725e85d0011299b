-- Sending octets.
use Rattle.std.specs.Prelude.{◌≡◌, ℕ, ◌+◌, ◌≤◌, ◌<◌, List, [], length, take, Option, Result, Ok, Err}
use Rattle.std.specs.Io.KnownBytes.{Appends}
use Rattle.dcc_connect.specs.declared.fault.ConnectFault.{ConnectFault}
use Rattle.dcc_connect.specs.declared.fault.ConnectFault.TheVariants.{Read, Write, TooManyTurns, Header, Memory}

-- the number of turns that are left, and the number of octets that went out
pub record Counts : Type 0 where
  pub left : ℕ
  pub written : ℕ

-- one turn of the writer
abbrev pub WritesOnce : Result ℕ ConnectFault → Option (List ℕ) → Option (List ℕ) → List ℕ → Counts → Counts → Type 0
WritesOnce (Ok count) before after octets old new =
    (0 < count) × (count ≤ length octets) × Appends before after (take count octets) × (new.written ≡ old.written + count) × (old.left ≡ new.left + 1)
WritesOnce (Err (Write written)) before after octets old new =
    Appends before after [] × (written ≡ old.written) × (new.written ≡ old.written) × (old.left ≡ new.left + 1)
WritesOnce (Err TooManyTurns) before after octets old new =
    Appends before after [] × (new.written ≡ old.written) × (old.left ≡ 0) × (new.left ≡ 0)
WritesOnce (Err Read) before after octets old new = ⊥
WritesOnce (Err (Header fault)) before after octets old new = ⊥
WritesOnce (Err Memory) before after octets old new = ⊥

-- the result of sending, if so many octets of all went out
abbrev pub StopsAt : Result (Unit {0}) ConnectFault → (count all : ℕ) → Counts → Counts → Type 0
StopsAt (Ok done) count all old new = (count ≡ all) × (old.left ≤ new.left + count)
StopsAt (Err (Write written)) count all old new = (count < all) × (written ≡ new.written) × (old.left ≤ new.left + count + 1) × (new.left < old.left)
StopsAt (Err TooManyTurns) count all old new = (count < all) × (new.left ≡ 0) × (old.left ≤ count)
StopsAt (Err Read) count all old new = ⊥
StopsAt (Err (Header fault)) count all old new = ⊥
StopsAt (Err Memory) count all old new = ⊥

-- octets went out, all or the first so many
abbrev pub Sends : Result (Unit {0}) ConnectFault → Option (List ℕ) → Option (List ℕ) → List ℕ → Counts → Counts → Type 0
Sends result before after octets old new =
    (count : ℕ) × (count ≤ length octets) × Appends before after (take count octets) × (new.written ≡ old.written + count) × (new.left ≤ old.left)
    × StopsAt result count (length octets) old new
