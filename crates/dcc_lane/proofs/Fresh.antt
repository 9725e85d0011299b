-- The senders of a new lane, one by one.
use Rattle.std.proofs.Common.{◌≡◌, ℕ, ◌+◌, List, [], ◌∷◌, ◌++◌, length, arith, ◌∙◌}
use Rattle.atomic_table.specs.Seated.{TableId}
use Rattle.dcc_lane.specs.declared.sender.Sender.{Sender}
use Rattle.dcc_lane.specs.Ends.{lane_of_sender, number_of, put_of, AreNew, IsOfLane}
use Rattle.std.specs.List.{All}
use Rattle.std.proofs.lemmas.List.Elements.{All-nil, All-cons}

pub AreNew-push : {T : Type 0} → (lane : TableId) (from : ℕ) (ss : List (Sender T)) (s : Sender T) → AreNew lane from ss → lane_of_sender s ≡ lane → number_of s ≡ from + length ss → put_of s ≡ [] → AreNew lane from (ss ++ s ∷ [])
AreNew-push lane from [] s h a b c = (a, b ∙ omega arith, c, tt)
AreNew-push lane from (t ∷ ts) s h a b c = (h.0, h.1, h.2, AreNew-push lane (from + 1) ts s h.3 a (b ∙ omega arith) c)

pub all_new : {T : Type 0} (lane : TableId) (from : ℕ) (ss : List (Sender T)) → AreNew lane from ss → All (IsOfLane lane) ss
all_new lane from [] h = All-nil _
all_new lane from (s ∷ ss) h = All-cons (IsOfLane lane) s ss h.0 (all_new lane (from + 1) ss h.3)
