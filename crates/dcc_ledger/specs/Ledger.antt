-- The ledger of an account: a line with the subscriber, a line for each entry in the books, and a line with the account's standing.
use Rattle.std.specs.Prelude.{ℕ, Bool, not, ◌&&◌, if◌then◌else◌, nat_eq, List, [], ◌∷◌, ◌++◌, codes, Option, Some, None, ℤ, pos, ◌+ℤ◌}
use Rattle.std.specs.List.{starts_with}
use Rattle.std.specs.Fmt.{decimal, signed_decimal}
use Rattle.hex.specs.Hex.{encode_lower}
use Rattle.dcc_octets.specs.Names.{are_visible}
use Rattle.dcc_act.specs.Subs.{SubView}
use Rattle.dcc_act.specs.declared.entry.Entry.{Entry}
use Rattle.dcc_act.specs.declared.entry.EntryKind.{EntryKind}
use Rattle.dcc_act.specs.declared.entry.EntryKind.TheVariants.{TopUp, Debit, Refund, Charge}
use Rattle.dcc_act.specs.declared.entry.EntryName.{EntryName}
use Rattle.dcc_act.specs.declared.entry.EntryName.TheVariants.{Ticket, Session}
use Rattle.dcc_ledger.specs.Columns.{padded_left, padded_right, with_sign}
use Rattle.dcc_ledger.specs.Moments.{moment_text}

-- the word of an entry's kind
abbrev pub word_of : EntryKind → List ℕ
word_of TopUp = codes "TOPUP"
word_of Debit = codes "DEBIT"
word_of Refund = codes "REFUND"
word_of Charge = codes "CHARGE"

-- the Rating-Group as it was sent; a dash if there was none
abbrev pub group_text : Option ℕ → List ℕ
group_text (Some group) = decimal group
group_text None = codes "-"

-- a Session-Id is shown as it is if it is visible ASCII and can't be taken for one in hexadecimal digits
abbrev pub is_shown : List ℕ → Bool
is_shown sid = are_visible sid && not (starts_with nat_eq sid (codes "hex:"))

abbrev pub session_text : List ℕ → List ℕ
session_text sid = if is_shown sid then sid else codes "hex:" ++ encode_lower sid

-- the name of an entry
abbrev pub name_text : EntryName → List ℕ
name_text (Ticket ticket) = codes "ticket " ++ decimal ticket
name_text (Session sid) = session_text sid

-- the line of an entry, with the funds after it: each line here is a column
unfoldable pub entry_line : Entry → ℤ → List ℕ
entry_line entry funds =
    padded_left 8 (decimal entry.place) ++ codes " "
    ++ moment_text entry.moment ++ codes " "
    ++ padded_right 6 (word_of entry.kind) ++ codes " "
    ++ padded_left 10 (group_text entry.group) ++ codes " "
    ++ padded_left 13 (decimal entry.units) ++ codes " "
    ++ padded_left 20 (with_sign entry.amount) ++ codes " "
    ++ padded_left 20 (signed_decimal funds) ++ codes " "
    ++ name_text entry.name ++ codes "\n"

-- the sum of the amounts
abbrev pub sum_of : List Entry → ℤ
sum_of [] = pos 0
sum_of (entry ∷ entries) = entry.amount +ℤ sum_of entries

-- the lines of entries behind earlier entries, each with the sum of all amounts up to its own
unfoldable pub lines_after : List Entry → List Entry → List ℕ
lines_after earlier [] = []
lines_after earlier (entry ∷ entries) =
    let so_far = earlier ++ entry ∷ [] in
    entry_line entry (sum_of so_far) ++ lines_after so_far entries

-- the line with the subscriber, by the type and the data of the Subscription-Id
abbrev pub head_line : SubView → List ℕ
head_line sub = codes "account " ++ decimal sub.kind ++ codes ":" ++ sub.name ++ codes "\n"

-- the standing of an account, in minor units
abbrev pub account_line : ℤ → ℤ → ℤ → List ℕ
account_line funds reserved overrun =
    codes "funds " ++ signed_decimal funds ++ codes " reserved " ++ signed_decimal reserved
    ++ codes " overrun " ++ signed_decimal overrun ++ codes "\n"

-- the ledger of these entries; the funds are the sum of all amounts
unfoldable pub ledger_text : SubView → List Entry → ℤ → ℤ → List ℕ
ledger_text sub entries reserved overrun =
    head_line sub ++ lines_after [] entries ++ account_line (sum_of entries) reserved overrun
