-- The indexes of an account and its acts: the place of the act of a key, and the sessions that were opened. `past` is the acts
-- that were made, the latest first.
use Rattle.std.specs.Prelude.{◌≡◌, ℕ, zero, suc, ◌+◌, ◌≤◌, Bool, if◌then◌else◌, List, [], ◌∷◌, length, slice_get, bytes_eq, nat_eq, Option, Some, None, MatchOption}
use Rattle.std.specs.Option.{ForSome}
use Rattle.indexmap.specs.IndexMap as map
use Rattle.indexmap.specs.IndexSet as set
use Rattle.dcc_act.specs.declared.act.Kind.{Kind}
use Rattle.dcc_act.specs.declared.outcome.Outcome.{Outcome}
use Rattle.dcc_act.specs.declared.request_key.RequestKey.{RequestKey}
use Rattle.dcc_model.specs.declared.done.Done.{Done}
use Rattle.dcc_model.specs.Keys.{request_key, ticket, same_request, same_ticket}
use Rattle.dcc_model.specs.Sessions.{Sid, opens_by, was_opened}
use Rattle.dcc_account.specs.declared.indexes.Indexes.{Indexes}
use Rattle.dcc_account.specs.declared.indexes.LargerIndexes.{LargerIndexes}
use Rattle.dcc_account.specs.declared.new_keys.NewKeys.{NewKeys}

-- the place, counted from 1, of the latest act that passes the test
abbrev pub place_by : (Done → Bool) → List Done → Option ℕ
place_by test [] = None
place_by test (done ∷ past) = if test done then Some (length past + 1) else place_by test past

-- an act is the request of this key
abbrev pub is_request : RequestKey → Done → Bool
is_request key done = same_request (Some key) (request_key done.act.kind)

-- an act is the top-up of this ticket
abbrev pub is_top_up_of : ℕ → Done → Bool
is_top_up_of number done = same_ticket (Some number) (ticket done.act.kind)

abbrev pub same_name : RequestKey → RequestKey → Bool
same_name a b = same_request (Some a) (Some b)

-- each index has at each key the finding of a look back over all acts
pub record IsIndexed (past : List Done) (indexes : Indexes) : Type 0 where
  pub requests_are : (key : RequestKey) → map.get same_name indexes.requests key ≡ place_by (is_request key) past
  pub tickets_are : (number : ℕ) → map.get nat_eq indexes.tickets number ≡ place_by (is_top_up_of number) past
  pub opened_are : (sid : Sid) → set.contains bytes_eq indexes.opened sid ≡ was_opened past sid

-- the outcome of the act at a place, counted from 1
abbrev pub outcome_in : List Outcome → ℕ → Option Outcome
outcome_in outcomes zero = None
outcome_in outcomes (suc before) = slice_get outcomes before

-- the keys are those of an act of this kind, and the session that it opens with this outcome
pub record AreKeysOf (kind : Kind) (outcome : Outcome) (keys : NewKeys) : Type 0 where
  pub request_is : keys.request ≡ request_key kind
  pub ticket_is : keys.ticket ≡ ticket kind
  pub opened_is : keys.opened ≡ opens_by kind outcome

-- there is room for one more key in each index
pub record HasRoom (indexes : Indexes) : Type 0 where
  pub requests : 1 ≤ map.spare indexes.requests
  pub tickets : 1 ≤ map.spare indexes.tickets
  pub opened : 1 ≤ set.spare indexes.opened

-- the larger indexes have no keys yet
pub record AreEmpty (larger : LargerIndexes) : Type 0 where
  pub requests : ForSome larger.requests map.IsEmpty
  pub tickets : ForSome larger.tickets map.IsEmpty
  pub opened : ForSome larger.opened set.IsEmpty

-- each index has room for so many more keys, or there is a larger index with room for all its keys and so many more
pub record CanGrow (indexes : Indexes) (more : ℕ) (larger : LargerIndexes) : Type 0 where
  pub requests : MatchOption larger.requests (more ≤ map.spare indexes.requests) (λ m. map.index_map_len indexes.requests + more ≤ map.spare m)
  pub tickets : MatchOption larger.tickets (more ≤ map.spare indexes.tickets) (λ m. map.index_map_len indexes.tickets + more ≤ map.spare m)
  pub opened : MatchOption larger.opened (more ≤ set.spare indexes.opened) (λ s. set.index_set_len indexes.opened + more ≤ set.spare s)
