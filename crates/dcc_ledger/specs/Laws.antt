-- Laws for the reader of a ledger.
use Rattle.std.specs.Prelude.{◌≡◌, ℕ, ◌^◌, ◌<◌, ◌≤◌, Some}
use Rattle.hex.specs.Hex.{IsBytes}
use Rattle.dcc_tariff.specs.PlanTexts.{moment_of}
use Rattle.dcc_tariff.specs.declared.limits.TheConstants.{LAST_SECOND}
use Rattle.dcc_act.specs.declared.entry.EntryName.{EntryName}
use Rattle.dcc_act.specs.declared.entry.EntryName.TheVariants.{Ticket, Session}
use Rattle.dcc_ledger.specs.Ledger.{name_text}
use Rattle.dcc_ledger.specs.Moments.{moment_text}

-- a ticket of 64 bits, or a session's octets
abbrev pub IsName : EntryName → Type 0
IsName (Ticket ticket) = ticket < 2 ^ 64
IsName (Session sid) = IsBytes sid

-- names with the same text are equal
abbrev pub NamesAreApart : Type 0
NamesAreApart = (a b : EntryName) → IsName a → IsName b → name_text a ≡ name_text b → a ≡ b

-- a plan reads the text of a moment as the same moment
abbrev pub MomentsAreReadBack : Type 0
MomentsAreReadBack = (moment : ℕ) → moment ≤ LAST_SECOND → moment_of (moment_text moment) ≡ Some moment
