-- The memory that a step brings.
use Rattle.std.specs.Prelude.{◌≡◌, ℕ, [], option_map, vec_capacity}
use Rattle.std.specs.Option.{ForSome}
use Rattle.indexmap.specs.IndexMap as map
use Rattle.indexmap.specs.IndexSet as set
use Rattle.dcc_expiry.specs.Deadlines.{count_of}
use Rattle.dcc_account.specs.Memory.{Space}
use Rattle.dcc_account.specs.declared.larger.Larger.{Larger}
use Rattle.dcc_account.specs.inner.Indexed.{AreEmpty}

-- the room in the larger lists and indexes
abbrev pub space_of : Larger → Space
space_of larger = record {
  acts = option_map (λ journal. journal.spare) larger.acts;
  outcomes = option_map (λ v. vec_capacity v) larger.outcomes;
  entries = option_map (λ v. vec_capacity v) larger.entries;
  sessions = option_map (λ v. vec_capacity v) larger.sessions;
  due = option_map (λ due. due.room) larger.due;
  requests = option_map (λ m. map.spare m) larger.indexes.requests;
  tickets = option_map (λ m. map.spare m) larger.indexes.tickets;
  opened = option_map (λ m. set.spare m) larger.indexes.opened;
}

-- the larger lists and indexes are empty yet
pub record IsEmpty (larger : Larger) : Type 0 where
  pub acts : ForSome larger.acts (λ journal. journal.acts ≡ [])
  pub outcomes : ForSome larger.outcomes (λ v. v.items ≡ [])
  pub entries : ForSome larger.entries (λ v. v.items ≡ [])
  pub sessions : ForSome larger.sessions (λ v. v.items ≡ [])
  pub due : ForSome larger.due (λ due. count_of due ≡ 0)
  pub indexes : AreEmpty larger.indexes
