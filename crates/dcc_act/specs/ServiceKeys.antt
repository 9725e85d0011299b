-- The keys of services.
use Rattle.std.specs.Prelude.{ℕ, Bool, true, false, not, ◌&&◌, ◌==◌, List, [], ◌∷◌, Option, Some, None}
use Rattle.std.specs.List.{list_any}
use Rattle.dcc_act.specs.declared.service_key.ServiceKey.{ServiceKey}

-- the first of the identifiers, if there is one
abbrev pub first_id : List ℕ → Option ℕ
first_id [] = None
first_id (id ∷ ids) = Some id

-- the key of a service: its Rating-Group and its first Service-Identifier, as sent, each or none
abbrev pub key_of : Option ℕ → List ℕ → ServiceKey
key_of group ids = record { group = group; id = first_id ids }

abbrev pub same_number : Option ℕ → Option ℕ → Bool
same_number None None = true
same_number (Some a) (Some b) = a == b
same_number None (Some b) = false
same_number (Some a) None = false

-- two keys are of one service
abbrev pub same_service : ServiceKey → ServiceKey → Bool
same_service a b = same_number a.group b.group && same_number a.id b.id

-- no two of these keys are of one service
abbrev pub are_apart : List ServiceKey → Bool
are_apart [] = true
are_apart (key ∷ keys) = not (list_any (same_service key) keys) && are_apart keys
