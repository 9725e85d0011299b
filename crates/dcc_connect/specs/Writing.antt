-- The writer's side of a connection.
use Rattle.std.specs.Prelude.{◌≡◌, ℕ, ◌+◌, ◌-◌, ◌≤◌, ◌<◌, ◌⊎◌, nat_le, if◌then◌else◌, List, [], ◌∷◌, ◌++◌, length, take, Option, Some, None}
use Rattle.std.specs.Io.KnownBytes.{Appends}
use mathlib.Core.List.{IsPrefix}
use Rattle.dcc_lane.specs.declared.rule.Tagged.{Tagged}
use Rattle.dcc_connect.specs.declared.writing.Item.{Item}
use Rattle.dcc_connect.specs.declared.writing.Item.TheVariants.{Octets, End}
use Rattle.dcc_connect.specs.declared.writing.WriteEnd.{WriteEnd}
use Rattle.dcc_connect.specs.declared.fault.ConnectFault.{ConnectFault}
use Rattle.dcc_connect.specs.declared.fault.ConnectFault.TheVariants.{Read, Write, TooManyTurns, Header, Memory}

-- the taken items of a lane, without the senders' numbers
abbrev pub items_of : {T : Type 0} → List (Tagged T) → List T
items_of [] = []
items_of (tagged ∷ more) = tagged.item ∷ items_of more

-- the octets of items, one after another
abbrev pub octets_in : List Item → List ℕ
octets_in [] = []
octets_in (Octets octets ∷ items) = octets ++ octets_in items
octets_in (End ∷ items) = octets_in items

-- the items before the last
abbrev pub but_last : List Item → List Item
but_last items = take (length items - 1) items

-- the number of senders that have ended
abbrev pub ends_in : List Item → ℕ
ends_in [] = 0
ends_in (Octets octets ∷ items) = ends_in items
ends_in (End ∷ items) = ends_in items + 1

-- the number of items of octets that are whole within the first so many octets
abbrev pub whole_in : ℕ → List Item → ℕ
whole_in count [] = 0
whole_in count (Octets octets ∷ items) = if nat_le (length octets) count then whole_in (count - length octets) items + 1 else 0
whole_in count (End ∷ items) = whole_in count items

-- the octets that went out of the taken items: all; with a fault of the writer, a beginning; with used-up turns, all octets of the items
-- before the last, and a beginning of the last
abbrev pub GoesOut : Option ConnectFault → List Item → List ℕ → Type 0
GoesOut None items out = out ≡ octets_in items
GoesOut (Some (Write written)) items out = (written < length (octets_in items)) × (out ≡ take written (octets_in items))
GoesOut (Some TooManyTurns) items out = IsPrefix out (octets_in items) × (length (octets_in (but_last items)) ≤ length out)
GoesOut (Some Read) items out = ⊥
GoesOut (Some (Header fault)) items out = ⊥
GoesOut (Some Memory) items out = ⊥

-- the side ends once every sender has ended, also after a fault of the writer, or once the turns are used up: by taken items, by octets that
-- went out, and by the write that failed
abbrev pub EndsWithSenders : Option ConnectFault → (senders turns : ℕ) → List Item → List ℕ → Type 0
EndsWithSenders None senders turns items out = ends_in items ≡ senders
EndsWithSenders (Some (Write written)) senders turns items out = (ends_in items ≡ senders) ⊎ (turns ≤ length items + length out + 1)
EndsWithSenders (Some TooManyTurns) senders turns items out = (ends_in items < senders) × (turns ≤ length items + length out)
EndsWithSenders (Some Read) senders turns items out = ⊥
EndsWithSenders (Some (Header fault)) senders turns items out = ⊥
EndsWithSenders (Some Memory) senders turns items out = ⊥

pub record IsWritten (end : WriteEnd) (senders turns : ℕ) (items : List Item) (out : List ℕ) : Type 0 where
  pub sent : GoesOut end.fault items out
  pub ended : EndsWithSenders end.fault senders turns items out
  pub answers : end.answers ≡ whole_in (length out) items
  pub turned : length items ≤ turns
  pub few : ends_in items ≤ senders
  pub counted : end.ended ≡ ends_in items

-- items were taken, and exactly these of their octets went out
abbrev pub TakesAndWrites : WriteEnd → (senders turns : ℕ) → Option (List ℕ) → Option (List ℕ) → List (Tagged Item) → List (Tagged Item) → Type 0
TakesAndWrites end senders turns before after old new =
    (more : List (Tagged Item)) × (out : List ℕ) × (new ≡ old ++ more) × Appends before after out × IsWritten end senders turns (items_of more) out
