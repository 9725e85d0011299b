-- The rule of a lane's queue, over the items in the queue and the knowledge of each pass.
use Rattle.std.specs.Prelude.{◌≡◌, ℕ, ◌≤◌, ◌<◌, ◌⊎◌, true, false, cond, nat_eq, Option, Some, None, List, [], ◌∷◌, ◌++◌}
use Rattle.std.specs.List.{AllByRecursion}
use mathlib.Core.Option.{some}
use mathlib.Core.List.{IsPrefix}
use lib.ListN.{get_elem?}
use Rattle.dcc_lane.specs.declared.rule.Known.{Known}
use Rattle.dcc_lane.specs.declared.rule.Tagged.{Tagged}

-- a value stands in a list
abbrev pub IsIn : {X : Type 0} → X → List X → Type 0
IsIn x [] = ⊥
IsIn x (y ∷ ys) = (y ≡ x) ⊎ IsIn x ys

module _ {T : Type 0} where
  abbrev pub sender : ℕ → List T → Known T
  sender number put = record { sends = true; number = number; put = put; receives = false; made = 0; taken = []; ended = [] }

  abbrev pub receiver : ℕ → List (Tagged T) → List (ℕ × List T) → Known T
  receiver made taken ended = record { sends = false; number = 0; put = []; receives = true; made = made; taken = taken; ended = ended }

  -- a sender whose pass was joined into the receiver's
  abbrev pub spent : Known T
  spent = record { sends = false; number = 0; put = []; receives = false; made = 0; taken = []; ended = [] }

  -- the items of one sender, in order
  abbrev pub of : ℕ → List (Tagged T) → List T
  of k [] = []
  of k (t ∷ ts) = cond (nat_eq t.from k) (t.item ∷ of k ts) (of k ts)

  -- each sender has one pass, which knows the items that the sender put
  abbrev pub FitsSender : (ℕ → Option ℕ) → List (Tagged T) → ℕ → Known T → Type 0
  FitsSender seat all pass v = v.sends ≡ true → (seat v.number ≡ Some pass) × (v.put ≡ of v.number all)

  -- a sender that was not made has put nothing
  abbrev pub IsUnmade : (ℕ → Option ℕ) → List (Tagged T) → ℕ → Type 0
  IsUnmade seat all k = (seat k ≡ None) × (of k all ≡ [])

  abbrev pub HasEnded : ℕ → (ℕ → Option ℕ) → List (Tagged T) → ℕ × List T → Type 0
  HasEnded made seat all e = (e.0 < made) × (seat e.0 ≡ None) × (e.1 ≡ of e.0 all)

  -- the only receiver knows the items that it took, the number of senders that were made, and the items that the ended senders put
  abbrev pub FitsReceiver : ℕ → (ℕ → Option ℕ) → List (Tagged T) → List (Tagged T) → ℕ → Known T → Type 0
  FitsReceiver reader seat taken all pass v =
      v.receives ≡ true
      → (pass ≡ reader) × (v.taken ≡ taken) × ((k : ℕ) → v.made ≤ k → IsUnmade seat all k) × AllByRecursion (HasEnded v.made seat all) v.ended

  -- the taken items of a sender, and then its queued items, are the items that it put
  abbrev pub Delivers : List (Tagged T) → List (Known T) → Type 0
  Delivers items views =
      (reader : ℕ) × (seat : ℕ → Option ℕ) × (taken : List (Tagged T))
      × ((pass : ℕ) (v : Known T) → get_elem? views pass ≡ some v → FitsSender seat (taken ++ items) pass v × FitsReceiver reader seat taken (taken ++ items) pass v)

  -- the taken items of each ended sender are a beginning of the items that it put
  abbrev pub AreBegun : List (Tagged T) → List (ℕ × List T) → Type 0
  AreBegun taken ended = AllByRecursion (λ (e : ℕ × List T). IsPrefix (of e.0 taken) e.1) ended
