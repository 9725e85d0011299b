-- The rows of the tables, as a book makes them.
use Rattle.std.specs.Prelude.{ℕ, ◌+◌, ℤ, pos, List, [], ◌∷◌, Option, Some, None}
use Rattle.sqlite.specs.declared.types.Value.{Value}
use Rattle.sqlite.specs.declared.types.Value.TheVariants.{Null, Int, Blob}
use Rattle.sqlite.specs.Order.{Row}
use Rattle.dcc_act.specs.declared.entry.Entry.{Entry}
use Rattle.dcc_act.specs.declared.entry.EntryKind.{EntryKind}
use Rattle.dcc_act.specs.declared.entry.EntryKind.TheVariants.{TopUp, Debit, Refund, Charge}
use Rattle.dcc_act.specs.declared.sub.Sub.{Sub}

-- a subscriber: its type in one octet, and the data
abbrev pub sub_octets : Sub → List ℕ
sub_octets sub = sub.kind ∷ sub.name

-- the number of an entry's kind
abbrev pub kind_code : EntryKind → ℕ
kind_code TopUp = 1
kind_code Debit = 2
kind_code Refund = 3
kind_code Charge = 4

-- the Rating-Group as it was sent, or NULL
abbrev pub group_value : Option ℕ → Value
group_value None = Null
group_value (Some group) = Int (pos group)

abbrev pub act_row : List ℕ → ℕ → List ℕ → Row
act_row sub place body = Blob sub ∷ Int (pos place) ∷ Blob body ∷ []

abbrev pub entry_cells : List ℕ → ℕ → ℕ → ℕ → Option ℕ → ℤ → ℤ → Row
entry_cells sub place line kind group units amount =
    Blob sub ∷ Int (pos place) ∷ Int (pos line) ∷ Int (pos kind) ∷ group_value group ∷ Int units ∷ Int amount ∷ []

abbrev pub entry_row : List ℕ → ℕ → ℕ → Entry → Row
entry_row sub place line entry = entry_cells sub place line (kind_code entry.kind) entry.group (pos entry.units) entry.amount

-- the rows of the entries of one act, behind so many lines
abbrev pub entry_rows_of : List ℕ → ℕ → ℕ → List Entry → List Row
entry_rows_of sub place line [] = []
entry_rows_of sub place line (entry ∷ more) = entry_row sub place (line + 1) entry ∷ entry_rows_of sub place (line + 1) more

abbrev pub account_row : List ℕ → ℕ → ℤ → Row
account_row sub acts funds = Blob sub ∷ Int (pos acts) ∷ Int funds ∷ []
