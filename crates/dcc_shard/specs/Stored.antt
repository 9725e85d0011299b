-- A shard and the records that keep its acts.
use Rattle.std.specs.Prelude.{◌≡◌, ℕ, ◌+◌, ◌≤◌, Bool, true, false, List, [], ◌∷◌, length, map, take}
use Rattle.dcc_tariff.specs.Terms.{TermsView}
use Rattle.dcc_act.specs.declared.act.Act.{Act}
use Rattle.dcc_act.specs.declared.sub.Sub.{Sub}
use Rattle.dcc_store.specs.Books.{Held}
use Rattle.dcc_store.specs.Contents.{Content, IsContentOf}
use Rattle.dcc_store.specs.Stops.{LeavesEither}
use Rattle.dcc_shard.specs.Shards.{ShardView, held_then, are_apart}

-- the accounts of a shard, and its records
pub record StoredView (R : Type 0) : Type 0 where
  pub shard : ShardView
  pub records : R

-- a content of the held acts is among the contents that a stop leaves
abbrev pub IsLeft : TermsView → Held → (Content → Type 0) → Type 0
IsLeft terms held leaves = ∥ ((content : Content) × IsContentOf terms held content × leaves content) ∥₁

-- the held acts after these acts, one after another, were judged
abbrev pub held_then_all : TermsView → List (Sub × Act) → Held → Held
held_then_all terms [] held = held
held_then_all terms (one ∷ more) held = held_then_all terms more (held_then terms one.0 one.1 held)

-- A stop leaves the held acts, or these with the acts of one batch more, and nothing else. The acts of a batch are of different
-- subscribers.
abbrev pub LeavesBatch : TermsView → Held → (Content → Type 0) → Type 0
LeavesBatch terms held leaves =
    ∥ ((batch : List (Sub × Act)) × (are_apart (map (λ one. one.0) batch) ≡ true) × LeavesEither terms held (held_then_all terms batch held) leaves) ∥₁

-- the found acts of a subscriber are the kept acts, in their order, and at most one act more
abbrev pub GoesOnFrom : (kept found : List Act) → Type 0
GoesOnFrom kept found = (take (length kept) found ≡ kept) × (length found ≤ length kept + 1)

-- in each content that a stop leaves, each subscriber has its held acts, and at most one act more
abbrev pub LeavesHeld : Held → (Content → Type 0) → Type 0
LeavesHeld held leaves = (found : Content) (sub : Sub) → leaves found → GoesOnFrom (held sub) (found sub).acts

-- The effect of one act of one subscriber on the records: on the contents that a stop leaves before and after it, on whether the
-- records are stopped, and on the number of their failures.
pub record IsKept (terms : TermsView) (held : Held) (sub : Sub) (act : Act) (before after : Content → Type 0) (was_stopped is_stopped : Bool) (faults_before faults_after : ℕ)
    : Type 0 where
  -- a stop inside the call, or after it, leaves the acts that were held before, or those held after the act was judged, and nothing else
  pub crash : was_stopped ≡ false → LeavesEither terms held (held_then terms sub act held) after
  -- stopped records stay stopped, and a stop leaves no content of them that it did not leave before
  pub frozen : was_stopped ≡ true → (is_stopped ≡ true) × ((found : Content) → after found → before found)
  -- records stop only if they fail in this call
  pub faults : faults_after ≡ faults_before → is_stopped ≡ was_stopped
