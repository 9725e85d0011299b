-- The lines that follow rounds.
use Rattle.std.specs.Prelude.{◌≡◌, ℕ, ◌+◌, ◌≤◌, ◌<◌, Bool, true, false, List, [], ◌∷◌, ◌++◌, length, take, codes, nat_eq, Option, Some, None}
use Rattle.std.specs.Fmt.{decimal}
use Rattle.std.specs.Io.KnownBytes.{Appends}
use Rattle.dcc_rounds.specs.declared.fault.ServeFault.{ServeFault}
use Rattle.dcc_rounds.specs.declared.fault.ServeFault.TheVariants.{Memory, Io, Close, Store}
use Rattle.dcc_rounds.specs.declared.line.Counts.{Counts}

abbrev pub round_line : ℕ → Counts → List ℕ
round_line round counts =
    codes "round " ++ decimal round ++ codes " requests " ++ decimal counts.requests ++ codes " answers " ++ decimal counts.answers
    ++ codes " acts " ++ decimal counts.acts ++ codes "\n"

-- the lines of rounds, one after another, with numbers from this one on
abbrev pub round_lines : ℕ → List Counts → List ℕ
round_lines first [] = []
round_lines first (counts ∷ later) = round_line first counts ++ round_lines (first + 1) later

-- a writer, before and after, has grown by the lines of this many rounds, the first of which is round 1
abbrev pub AreTold : ℕ → (old new : Option (List ℕ)) → Type 0
AreTold rounds old new = (ended : List Counts) × (length ended ≡ rounds) × Appends old new (round_lines 1 ended)

-- The growth of a writer if a fault ends a server of this many rounds: the lines of the rounds before; if records failed, the line of their round
-- too; if the output or the listener failed, a beginning of the next line too.
abbrev pub EndsWith : ServeFault → ℕ → (old new : Option (List ℕ)) → Type 0
EndsWith Memory rounds old new = (ended : ℕ) × (ended < rounds) × AreTold ended old new
EndsWith (Close number) rounds old new = (ended : ℕ) × (ended < rounds) × AreTold ended old new
EndsWith (Store number) rounds old new = (number ≡ 51) × ((ended : ℕ) × (1 ≤ ended) × (ended ≤ rounds) × AreTold ended old new)
EndsWith Io rounds old new =
    (ended : List Counts) × (next : Counts) × (n : ℕ) × (length ended < rounds)
    × Appends old new (round_lines 1 ended ++ take n (round_line (length ended + 1) next))

-- whether a fault has a number: a fault of the comparison, of a lane or of records
abbrev pub is_numbered : ServeFault → Bool
is_numbered Memory = false
is_numbered Io = false
is_numbered (Close number) = true
is_numbered (Store number) = true

-- whether a fault is want of memory, or a missing sender of a lane
abbrev pub is_of_lanes : ServeFault → Bool
is_of_lanes Memory = true
is_of_lanes Io = false
is_of_lanes (Close number) = nat_eq number 80
is_of_lanes (Store number) = false

-- the fault of a server by the number of a fault of the comparison; want of memory has no number
abbrev pub of_number : Option ℕ → ServeFault
of_number None = Memory
of_number (Some number) = Close number
