-- The writing of items, one after another.
use Rattle.std.specs.Prelude.{◌≡◌, ℕ, ◌+◌, ◌≤◌, ◌<◌, List, [], ◌++◌, length, take, Option, Some, None, Bool, true, false}
use Rattle.std.specs.Io.KnownBytes.{Appends}
use Rattle.dcc_connect.specs.declared.writing.Item.{Item}
use Rattle.dcc_connect.specs.declared.writing.Item.TheVariants.{Octets, End}
use Rattle.dcc_connect.specs.declared.writing.Progress.{Progress}
use Rattle.dcc_connect.specs.declared.fault.ConnectFault.{ConnectFault}
use Rattle.dcc_connect.specs.declared.fault.ConnectFault.TheVariants.{Read, Write, TooManyTurns, Header, Memory}
use Rattle.dcc_connect.specs.inner.Sends.{Counts}
use Rattle.dcc_lane.specs.declared.rule.Tagged.{Tagged}
use Rattle.dcc_connect.specs.Writing.{items_of, octets_in, but_last, ends_in, whole_in}

-- nothing went out
abbrev pub Stays : Option (List ℕ) → Option (List ℕ) → Counts → Counts → Type 0
Stays before after old new = Appends before after [] × (new.written ≡ old.written) × (new.left ≡ old.left)

-- the first fault, if so many octets of all went out
abbrev pub FirstFault : Option ConnectFault → (count all : ℕ) → Counts → Counts → Type 0
FirstFault None count all old new = (count ≡ all) × (old.left ≤ new.left + count)
FirstFault (Some (Write written)) count all old new = (count < all) × (written ≡ new.written) × (old.left ≤ new.left + count + 1)
FirstFault (Some TooManyTurns) count all old new = (count < all) × (new.left ≡ 0) × (old.left ≤ count)
FirstFault (Some Read) count all old new = ⊥
FirstFault (Some (Header fault)) count all old new = ⊥
FirstFault (Some Memory) count all old new = ⊥

-- the number of answers, with one more if it went out whole
abbrev pub answers_with : Option ConnectFault → ℕ → ℕ
answers_with None answers = answers + 1
answers_with (Some fault) answers = answers

-- octets go out if there was no fault before
abbrev pub WritesOctets : Option ConnectFault → List ℕ → Progress → Progress → Option (List ℕ) → Option (List ℕ) → Counts → Counts → Type 0
WritesOctets (Some fault) octets p q before after old new = (q ≡ p) × Stays before after old new
WritesOctets None octets p q before after old new =
    (count : ℕ) × (count ≤ length octets) × Appends before after (take count octets) × (new.written ≡ old.written + count) × (new.left ≤ old.left)
    × (q.ended ≡ p.ended) × (q.answers ≡ answers_with q.fault p.answers) × FirstFault q.fault count (length octets) old new

abbrev pub WritesItem : Item → Progress → Progress → Option (List ℕ) → Option (List ℕ) → Counts → Counts → Type 0
WritesItem End p q before after old new = (q ≡ record p { ended = p.ended + 1 }) × Stays before after old new
WritesItem (Octets octets) p q before after old new = WritesOctets p.fault octets p q before after old new

-- the octets that went out of items, by the first fault
abbrev pub HasSent : Option ConnectFault → (senders turns : ℕ) → List Item → List ℕ → Counts → Type 0
HasSent None senders turns items out counts = (out ≡ octets_in items) × (turns ≤ length items + length out + counts.left)
HasSent (Some (Write written)) senders turns items out counts =
    (written < length (octets_in items)) × (out ≡ take written (octets_in items)) × (turns ≤ length items + length out + 1 + counts.left)
HasSent (Some TooManyTurns) senders turns items out counts =
    (ends_in items < senders) × (length out < length (octets_in items)) × (out ≡ take (length out) (octets_in items)) × (counts.left ≡ 0) × (turns ≤ length items + length out)
    × (length (octets_in (but_last items)) ≤ length out)
HasSent (Some Read) senders turns items out counts = ⊥
HasSent (Some (Header fault)) senders turns items out counts = ⊥
HasSent (Some Memory) senders turns items out counts = ⊥

-- the state of a writer's side after these items
pub record HasWritten (senders turns : ℕ) (items : List Item) (progress : Progress) (sent : List ℕ) (counts : Counts) : Type 0 where
  pub went : HasSent progress.fault senders turns items sent counts
  pub written : counts.written ≡ length sent
  pub answers : progress.answers ≡ whole_in (length sent) items
  pub few : progress.answers ≤ length items
  pub ended : ends_in items ≡ progress.ended
  pub spent : length items + counts.left ≤ turns

-- the same after the taken items of a lane
pub record HasTaken (senders turns : ℕ) (before now : Option (List ℕ)) (old new : List (Tagged Item)) (progress : Progress) (counts : Counts) : Type 0 where
  pub more : List (Tagged Item)
  pub sent : List ℕ
  pub taken : new ≡ old ++ more
  pub out : Appends before now sent
  pub so : HasWritten senders turns (items_of more) progress sent counts

-- the fault that is reported at the end, by whether a sender hasn't ended
abbrev pub last_fault : Option ConnectFault → Bool → Option ConnectFault
last_fault (Some fault) missing = Some fault
last_fault None true = Some TooManyTurns
last_fault None false = None
