-- Readers: each returns the part of a record in front of octets, and the octets behind it; or none.
use Rattle.std.specs.Prelude.{◌≡◌, ℕ, zero, suc, ◌==◌, nat_lt, if◌then◌else◌, List, [], ◌∷◌, length, take, drop, Option, Some, None, Result, Ok, Err}
use Rattle.std.specs.Int.{Width, byte_len, from_be_bytes}
use Rattle.dcc_act_codec.specs.declared.fault.RecordFault.{RecordFault}
use Rattle.dcc_act_codec.specs.declared.fault.RecordFault.TheVariants.{BadRecord, Memory}

infixl 10 ◌>>=◌
abbrev pub ◌>>=◌ : {A B : Type 0} → Option A → (A → Option B) → Option B
(Some x) >>= f = f x
None >>= f = None

abbrev pub Reader : Type 0 → Type 0
Reader A = List ℕ → Option (A × List ℕ)

-- fault 40 means that nothing is read; want of memory means nothing
abbrev pub Fails : {Y : Type 0} → RecordFault → Option Y → Type 0
Fails BadRecord read = read ≡ None
Fails Memory read = Unit {0}

-- the answer of a call, seen by `view`, is the value that is read, unless memory ran out
abbrev pub Gives : {X Y : Type 0} → (X → Y) → Result X RecordFault → Option Y → Type 0
Gives view (Ok x) read = read ≡ Some (view x)
Gives view (Err fault) read = Fails fault read

-- one octet
unfoldable pub octet_in : Reader ℕ
octet_in [] = None
octet_in (octet ∷ rest) = Some (octet, rest)

-- so many octets
unfoldable pub front_in : ℕ → Reader (List ℕ)
front_in count octets = if nat_lt (length octets) count then None else Some (take count octets, drop count octets)

-- a number of so many octets
unfoldable pub number_in : Width → Reader ℕ
number_in width octets = do
  front ← front_in (byte_len width) octets
  Some (from_be_bytes width front.0, front.1)

-- one part, and a second part behind it
abbrev pub both : {A B : Type 0} → Reader A → Reader B → Reader (A × B)
both first second octets = do
  a ← first octets
  b ← second a.1
  Some ((a.0, b.0), b.1)

-- the value that `make` returns for a part, if it returns any
abbrev pub checked : {A B : Type 0} → (A → Option B) → Reader A → Reader B
checked make part octets = do
  a ← part octets
  b ← make a.0
  Some (b, a.1)

-- this octet
unfoldable pub fixed_in : ℕ → Reader ℕ
fixed_in expected = checked (λ octet. if octet == expected then Some octet else None) octet_in

-- a part that may be absent
abbrev pub optional_in : {A : Type 0} → Reader A → Reader (Option A)
optional_in part octets = do
  flag ← octet_in octets
  if flag.0 == 0 then Some (None, flag.1) else (if flag.0 == 1 then checked (λ value. Some (Some value)) part flag.1 else None)

-- so many parts
abbrev pub many_in : {A : Type 0} → Reader A → ℕ → Reader (List A)
many_in part zero octets = Some ([], octets)
many_in part (suc count) octets = do
  first ← part octets
  others ← many_in part count first.1
  Some (first.0 ∷ others.0, others.1)

-- parts behind their count
abbrev pub counted_in : {A : Type 0} → Reader ℕ → Reader A → Reader (List A)
counted_in count part octets = do
  n ← count octets
  many_in part n.0 n.1

-- the part that all of the octets are read as
abbrev pub whole : {A : Type 0} → Reader A → List ℕ → Option A
whole part octets = do
  found ← part octets
  if length found.1 == 0 then Some found.0 else None
