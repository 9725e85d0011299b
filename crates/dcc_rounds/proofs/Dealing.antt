-- How lanes are dealt.
use Rattle.std.proofs.Common.{◌≡◌, ℕ, ◌+◌, List, [], ◌∷◌, ◌++◌, map, length, refl, sym, ap, ◌∙◌, append_assoc, arith}
use Rattle.std.proofs.lemmas.List.{map-append}
use Rattle.std.specs.Global.{Vec}
use Rattle.std.specs.List.{AllByRecursion}
use Rattle.dcc_lane.specs.Ends.{lane_of, lane_of_sender, put_of, AreNew}
use Rattle.dcc_lane.specs.declared.receiver.Receiver.{Receiver}
use Rattle.dcc_lane.specs.declared.sender.Sender.{Sender}
use Rattle.dcc_rounds.specs.Lanes.{AreDealt, IsNewSender, deal, lists_of}

pub all_push : {X : Type 0} (P : X → Type 0) (xs : List X) (x : X) → AllByRecursion P xs → P x → AllByRecursion P (xs ++ x ∷ [])
all_push P [] x all here = (here, tt)
all_push P (y ∷ xs) x all here = (all.0, all_push P xs x all.1 here)

module _ {T : Type 0} where
  pub dealt_one : (receivers : List (Receiver T)) (r : Receiver T) (list : List (Sender T)) (s : Sender T) → AreDealt receivers list → lane_of_sender s ≡ lane_of r
      → put_of s ≡ [] → AreDealt (receivers ++ r ∷ []) (list ++ s ∷ [])
  dealt_one receivers r list s d of_lane none = (
    map-append lane_of_sender list (s ∷ []) ∙ ap (λ k. map lane_of_sender list ++ k ∷ []) of_lane ∙ ap (λ ls. ls ++ lane_of r ∷ []) d.0
        ∙ sym (map-append lane_of receivers (r ∷ [])),
    all_push IsNewSender list s d.1 none,
  )

  pub dealt_all : (receivers : List (Receiver T)) (r : Receiver T) (from : ℕ) (lists : List (List (Sender T))) (ss : List (Sender T))
      → AllByRecursion (AreDealt receivers) lists → AreNew (lane_of r) from ss → length lists ≡ length ss → AllByRecursion (AreDealt (receivers ++ r ∷ [])) (deal lists ss)
  dealt_all receivers r from [] ss all new same = tt
  dealt_all receivers r from (l ∷ ls) [] all new same = absurd (omega arith)
  dealt_all receivers r from (l ∷ ls) (s ∷ ss) all new same =
      (dealt_one receivers r l s all.0 new.0 new.2, dealt_all receivers r (from + 1) ls ss all.1 new.3 (omega arith))

  pub deal_length : (lists : List (List (Sender T))) (ss : List (Sender T)) → length (deal lists ss) ≡ length lists
  deal_length [] ss = refl
  deal_length (l ∷ ls) [] = refl
  deal_length (l ∷ ls) (s ∷ ss) = omega (arith, deal_length ls ss)

  pub lists_push : (lists : List (Vec (Sender T))) (list : Vec (Sender T)) → lists_of (lists ++ list ∷ []) ≡ lists_of lists ++ list.items ∷ []
  lists_push [] list = refl
  lists_push (l ∷ lists) list = ap (λ ls. l.items ∷ ls) (lists_push lists list)

  -- there is no sender left
  deal_none : (lists : List (List (Sender T))) → deal lists [] ≡ lists
  deal_none [] = refl
  deal_none (l ∷ ls) = refl

  -- one list more was dealt a sender
  pub deal_next : (done next lists left : List (Vec (Sender T))) (list one : Vec (Sender T)) (senders rest : List (Sender T)) (s : Sender T) (all : List (List (Sender T)))
      → lists ≡ list ∷ left → next ≡ done ++ one ∷ [] → senders ≡ s ∷ rest → one.items ≡ list.items ++ s ∷ []
      → lists_of done ++ deal (lists_of lists) senders ≡ all → lists_of next ++ deal (lists_of left) rest ≡ all
  deal_next done next lists left list one senders rest s all first more given is told =
      ap (λ (ls : List (Vec (Sender T))). lists_of ls ++ deal (lists_of left) rest) more
      ∙ ap (λ (ls : List (List (Sender T))). ls ++ deal (lists_of left) rest) (lists_push done one)
      ∙ append_assoc (lists_of done) (one.items ∷ []) (deal (lists_of left) rest)
      ∙ ap (λ (l : List (Sender T)). lists_of done ++ (l ∷ deal (lists_of left) rest)) is
      ∙ sym (ap (λ (ls : List (Vec (Sender T))). lists_of done ++ deal (lists_of ls) senders) first
      ∙ ap (λ (ss : List (Sender T)). lists_of done ++ deal (list.items ∷ lists_of left) ss) given)
      ∙ told

  -- or the list stays as it is, if no sender is left
  pub deal_past : (done next lists left : List (Vec (Sender T))) (list one : Vec (Sender T)) (senders rest : List (Sender T)) (all : List (List (Sender T)))
      → lists ≡ list ∷ left → next ≡ done ++ one ∷ [] → senders ≡ [] → rest ≡ [] → one ≡ list
      → lists_of done ++ deal (lists_of lists) senders ≡ all → lists_of next ++ deal (lists_of left) rest ≡ all
  deal_past done next lists left list one senders rest all first more none no_rest is told =
      ap (λ (ls : List (Vec (Sender T))). lists_of ls ++ deal (lists_of left) rest) more
      ∙ ap (λ (ls : List (List (Sender T))). ls ++ deal (lists_of left) rest) (lists_push done one)
      ∙ append_assoc (lists_of done) (one.items ∷ []) (deal (lists_of left) rest)
      ∙ ap (λ (l : Vec (Sender T)). lists_of done ++ (l.items ∷ deal (lists_of left) rest)) is
      ∙ ap (λ (ss : List (Sender T)). lists_of done ++ (list.items ∷ deal (lists_of left) ss)) no_rest
      ∙ ap (λ (ls : List (List (Sender T))). lists_of done ++ (list.items ∷ ls)) (deal_none (lists_of left))
      ∙ sym (ap (λ (ls : List (Vec (Sender T))). lists_of done ++ deal (lists_of ls) senders) first
      ∙ ap (λ (ss : List (Sender T)). lists_of done ++ deal (list.items ∷ lists_of left) ss) none)
      ∙ told
