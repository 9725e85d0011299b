-- The gathered octets: those of items that were taken and haven't gone out, and the end of each item among them.
use Rattle.std.specs.Prelude.{◌≡◌, ℕ, ◌+◌, ◌≤◌, ◌<◌, ◌⊎◌, nat_le, List, [], ◌∷◌, ◌++◌, length, take, count_by, Option, Some, None}
use Rattle.std.specs.Io.KnownBytes.{Appends}
use Rattle.dcc_lane.specs.declared.rule.Tagged.{Tagged}
use Rattle.dcc_connect.specs.declared.writing.Item.{Item}
use Rattle.dcc_connect.specs.declared.writing.Item.TheVariants.{Octets, End}
use Rattle.dcc_connect.specs.declared.writing.Progress.{Progress}
use Rattle.dcc_connect.specs.declared.gathering.Gathered.{Gathered}
use Rattle.dcc_connect.specs.declared.fault.ConnectFault.{ConnectFault}
use Rattle.dcc_connect.specs.declared.fault.ConnectFault.TheVariants.{Write}
use Rattle.dcc_connect.specs.inner.Sends.{Counts}
use Rattle.dcc_connect.specs.inner.Items.{Stays, WritesOctets, WritesItem, HasTaken}
use Rattle.dcc_connect.specs.Writing.{items_of, octets_in, ends_in, whole_in}

-- the number of these ends that are within the first so many octets
abbrev pub within : ℕ → List ℕ → ℕ
within count ends = count_by (λ end. nat_le end count) ends

-- an item's octets, at least one, joined the gathered octets; together they are at most `most`, and at most 16,384
abbrev pub Joins : ℕ → List ℕ → Gathered → Gathered → Type 0
Joins most octets old new =
    (new.octets.items ≡ old.octets.items ++ octets) × (new.ends.items ≡ old.ends.items ++ length (old.octets.items ++ octets) ∷ [])
    × (length (old.octets.items ++ octets) ≤ most) × (0 < length octets) × (length (old.octets.items ++ octets) ≤ 16384)

-- so many of the octets went out: all, or the first of them with a fault of the writer
abbrev pub Flushes : (octets ends : List ℕ) → Progress → Progress → Option (List ℕ) → Option (List ℕ) → Counts → Counts → Type 0
Flushes octets ends p q before after old new =
    (count : ℕ) × (count ≤ length octets) × Appends before after (take count octets) × (new.written ≡ old.written + count) × (new.left ≤ old.left)
    × (q.ended ≡ p.ended) × (q.answers ≡ p.answers + within count ends)
    × (((q.fault ≡ p.fault) × (count ≡ length octets) × (old.left ≤ new.left + count))
    ⊎ ((q.fault ≡ Some (Write new.written)) × (count < length octets) × (old.left ≤ new.left + count + 1)))

-- the gathered octets go out, or stay
abbrev pub MayFlush : Gathered → Gathered → Progress → Progress → Option (List ℕ) → Option (List ℕ) → Counts → Counts → Type 0
MayFlush g h p q before after old new =
    ((h.octets.items ≡ g.octets.items) × (h.ends.items ≡ g.ends.items) × (q ≡ p) × Stays before after old new)
    ⊎ ((h.octets.items ≡ []) × (h.ends.items ≡ []) × Flushes g.octets.items g.ends.items p q before after old new)

-- octets are gathered, or the gathered octets go out, and these octets behind them
abbrev pub GathersOctets : List ℕ → Gathered → Gathered → Progress → Progress → Option (List ℕ) → Option (List ℕ) → Counts → Counts → Type 0
GathersOctets octets g h p q before after old new =
    ((p.fault ≡ None) × Joins old.left octets g h × (q ≡ p) × Stays before after old new)
    ⊎ ((r : Progress) × (mid : Option (List ℕ)) × (counts : Counts) × (h.octets.items ≡ []) × (h.ends.items ≡ [])
    × Flushes g.octets.items g.ends.items p r before mid old counts × WritesOctets r.fault octets r q mid after counts new)

-- the octets of an item are gathered, or go out; an end leaves the gathered octets as they are
abbrev pub Gathers : Item → Gathered → Gathered → Progress → Progress → Option (List ℕ) → Option (List ℕ) → Counts → Counts → Type 0
Gathers End g h p q before after old new = (h.octets.items ≡ g.octets.items) × (h.ends.items ≡ g.ends.items) × WritesItem End p q before after old new
Gathers (Octets octets) g h p q before after old new = GathersOctets octets g h p q before after old new

-- all octets of the taken items of a lane went out, except the gathered octets
pub record HasGathered (turns : ℕ) (before now : Option (List ℕ)) (old new : List (Tagged Item)) (progress : Progress) (counts : Counts) (octets ends : List ℕ) : Type 0 where
  pub more : List (Tagged Item)
  pub sent : List ℕ
  pub taken : new ≡ old ++ more
  pub out : Appends before now sent
  pub fault : progress.fault ≡ None
  pub joined : sent ++ octets ≡ octets_in (items_of more)
  pub turned : turns ≤ length (items_of more) + length sent + counts.left
  pub written : counts.written ≡ length sent
  pub answers : (count : ℕ) → count ≤ length octets → whole_in (length sent + count) (items_of more) ≡ progress.answers + within count ends
  pub bound : (count : ℕ) → length octets ≤ count → within count ends ≡ within (length octets) ends
  pub few : progress.answers + length ends ≤ length (items_of more)
  pub ended : ends_in (items_of more) ≡ progress.ended
  pub spent : length (items_of more) + counts.left ≤ turns

-- the state of a writer's side: without a fault, some octets may be gathered; after a fault, none are
abbrev pub HasCome : Option ConnectFault → (senders turns : ℕ) → (before now : Option (List ℕ)) → (old new : List (Tagged Item)) → Progress → Counts → (octets ends : List ℕ) → Type 0
HasCome None senders turns before now old new progress counts octets ends = HasGathered turns before now old new progress counts octets ends
HasCome (Some fault) senders turns before now old new progress counts octets ends = (octets ≡ []) × (ends ≡ []) × HasTaken senders turns before now old new progress counts
