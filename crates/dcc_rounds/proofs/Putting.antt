-- What putting an item changes of lanes.
use Rattle.std.proofs.Common.{◌≡◌, ℕ, zero, suc, ◌<◌, ◌≤◌, List, [], ◌∷◌, ◌++◌, length, get_or, set, refl, ap, arith}
use Rattle.dcc_lane.specs.Ends.{lane_of_sender, put_of}
use Rattle.dcc_lane.specs.declared.sender.Sender.{Sender}
use Rattle.dcc_rounds.specs.Lanes.{all_put, lanes_of, put_into, put_first, put_all}

pub put_at : {T : Type 0} (senders : List (Sender T)) (i : ℕ) (s none : Sender T) (item : T) → i < length senders
    → put_of s ≡ put_of (get_or senders i none) ++ item ∷ [] → all_put (set senders i s) ≡ put_into i item (all_put senders)
put_at [] i s none item within is = absurd (omega arith)
put_at (x ∷ xs) zero s none item within is = ap (λ lane. lane ∷ all_put xs) is
put_at (x ∷ xs) (suc i) s none item within is = ap (λ lanes. put_of x ∷ lanes) (put_at xs i s none item (omega arith) is)

pub put_nothing : {T : Type 0} (senders : List (Sender T)) (i : ℕ) (s none : Sender T) → i < length senders
    → put_of s ≡ put_of (get_or senders i none) → all_put (set senders i s) ≡ all_put senders
put_nothing [] i s none within is = absurd (omega arith)
put_nothing (x ∷ xs) zero s none within is = ap (λ lane. lane ∷ all_put xs) is
put_nothing (x ∷ xs) (suc i) s none within is = ap (λ lanes. put_of x ∷ lanes) (put_nothing xs i s none (omega arith) is)

pub put_past : {T : Type 0} (senders : List (Sender T)) (i : ℕ) (item : T) → length senders ≤ i → all_put senders ≡ put_into i item (all_put senders)
put_past [] i item past = refl
put_past (x ∷ xs) zero item past = absurd (omega arith)
put_past (x ∷ xs) (suc i) item past = ap (λ lanes. put_of x ∷ lanes) (put_past xs i item (omega arith))

pub put_none : {T : Type 0} (lanes : List (List T)) (item : T) → lanes ≡ put_first 0 item lanes
put_none [] item = refl
put_none (x ∷ xs) item = refl

pub put_next : {T : Type 0} (lanes : List (List T)) (i : ℕ) (item : T) → put_into i item (put_first i item lanes) ≡ put_first (suc i) item lanes
put_next [] i item = refl
put_next (x ∷ xs) zero item = ap (λ lanes. (x ++ item ∷ []) ∷ lanes) (put_none xs item)
put_next (x ∷ xs) (suc i) item = ap (λ lanes. (x ++ item ∷ []) ∷ lanes) (put_next xs i item)

pub put_each : {T : Type 0} (lanes : List (List T)) (i : ℕ) (item : T) → length lanes ≤ i → put_first i item lanes ≡ put_all item lanes
put_each [] i item all = refl
put_each (x ∷ xs) zero item all = absurd (omega arith)
put_each (x ∷ xs) (suc i) item all = ap (λ lanes. (x ++ item ∷ []) ∷ lanes) (put_each xs i item (omega arith))

-- a sender in the place of one of the same lane
pub same_lanes : {T : Type 0} (senders : List (Sender T)) (i : ℕ) (s none : Sender T) → i < length senders
    → lane_of_sender s ≡ lane_of_sender (get_or senders i none) → lanes_of (set senders i s) ≡ lanes_of senders
same_lanes [] i s none within is = absurd (omega arith)
same_lanes (x ∷ xs) zero s none within is = ap (λ lane. lane ∷ lanes_of xs) is
same_lanes (x ∷ xs) (suc i) s none within is = ap (λ lanes. lane_of_sender x ∷ lanes) (same_lanes xs i s none (omega arith) is)
