-- How reading goes on, turn by turn.
use Rattle.std.proofs.Common.{◌≡◌, ℕ, ◌+◌, ◌<◌, List, [], ◌∷◌, ◌++◌, length, refl, sym, ap, ◌∙◌, subst, Option, Ok, Err, arith, length-append}
use Rattle.std.specs.List.{AllByRecursion, concat}
use Rattle.std.specs.Io.KnownBytes.{Consumes}
use Rattle.std.proofs.KnownBytes.{Consumes-nil, Consumes-trans}
use Rattle.std.proofs.lemmas.List.{append-nil}
use Rattle.std.proofs.lemmas.List.Folds.{concat-append}
use Rattle.dcc_message.specs.Streams.{rest}
use Rattle.dcc_connect.specs.declared.turns.Turn.TheVariants as turn
use Rattle.dcc_connect.specs.declared.handing.Handed.{Handed}
use Rattle.dcc_connect.specs.declared.fault.ConnectFault.{ConnectFault}
use Rattle.dcc_connect.specs.declared.fault.ConnectFault.TheVariants.{Read, Write, TooManyTurns, Header, Memory}
use Rattle.dcc_connect.specs.declared.fault.ConnectionEnd.{ConnectionEnd}
use Rattle.dcc_connect.specs.declared.fault.ConnectionEnd.TheVariants.{End, Closed, Fault}
use Rattle.dcc_connect.specs.Streams.{PassesAll}
use Rattle.dcc_connect.specs.Reading.{HandsOn, HandsLast, ReadsPieces, ReadsAndHands}
use Rattle.dcc_connect.specs.inner.Steps.{StreamLaws, TakesPiece, HasFed, HasRead, HandsReady}
use Rattle.dcc_connect.proofs.Passing.{grows, all_none, pass_all, pass_before, pass_up_to}

pub snoc : (pieces : List (List ℕ)) (piece : List ℕ) → concat (pieces ++ piece ∷ []) ≡ concat pieces ++ piece
snoc pieces piece = concat-append pieces (piece ∷ []) ∙ ap (λ x. concat pieces ++ x) (append-nil piece)

pub longer : (pieces : List (List ℕ)) (piece : List ℕ) (n : ℕ) → length pieces ≡ n → length (pieces ++ piece ∷ []) ≡ n + 1
longer pieces piece n h = length-append pieces (piece ∷ []) ∙ ap (λ k. k + 1) h

filled : (pieces : List (List ℕ)) (piece : List ℕ) → AllByRecursion (λ p. 0 < length p) pieces → 0 < length piece → AllByRecursion (λ p. 0 < length p) (pieces ++ piece ∷ [])
filled [] piece h k = (k, tt)
filled (p ∷ pieces) piece h k = (h.0, filled pieces piece h.1 k)

pub one_more : (a b c : Option (List ℕ)) (pieces : List (List ℕ)) (piece : List ℕ) → ReadsPieces a b pieces → 0 < length piece → Consumes b c piece
    → ReadsPieces a c (pieces ++ piece ∷ [])
one_more a b c pieces piece h k r = (subst (Consumes a c) (sym (snoc pieces piece)) (Consumes-trans a b c (concat pieces) piece h.0 r), filled pieces piece h.1 k)

pub no_more : (a b c : Option (List ℕ)) (pieces : List (List ℕ)) → ReadsPieces a b pieces → Consumes b c [] → ReadsPieces a c pieces
no_more a b c pieces h r = (subst (Consumes a c) (append-nil (concat pieces)) (Consumes-trans a b c (concat pieces) [] h.0 r), h.1)

module _ {S : Type 0} (R : S → List ℕ → S → Type 0) where
  pub begun : StreamLaws → (a : Option (List ℕ)) (s : S) (held : List ℕ) → held ≡ [] → HasRead R 0 a a held s s
  begun laws a s held e =
      let left = laws.none_rest [] refl in
      record {
        pieces = [];
        given = (Consumes-nil a, tt);
        counted = refl;
        passed = all_none R [] s (laws.none [] refl) left refl;
        left = e ∙ sym left;
      }

  pub fed : StreamLaws → (n : ℕ) (a b c : Option (List ℕ)) (held now : List ℕ) (s t : S) → HasRead R n a b held s t → TakesPiece (Ok turn.Fed) b c held now → HasFed R (n + 1) a c now s t
  fed laws n a b c held now s t h p =
      let piece = p.0 in
      let on = grows R laws (concat h.pieces) held piece s t h.passed h.left in
      record {
        pieces = h.pieces ++ piece ∷ [];
        given = one_more a b c h.pieces piece h.given p.1 p.2;
        counted = longer h.pieces piece n h.counted;
        passed = rw (snoc h.pieces piece, p.3) on;
      }

  pub drained : (n : ℕ) (a c : Option (List ℕ)) (held now : List ℕ) (s t u : S) → HasFed R n a c held s t → PassesAll R held t u → now ≡ rest held → HasRead R n a c now s u
  drained n a c held now s t u h p e = record {
    pieces = h.pieces;
    given = h.given;
    counted = h.counted;
    passed = pass_all R (concat h.pieces) held s t u h.passed p;
    left = e ∙ sym h.passed.left;
  }

module _ {S : Type 0} (hands : S → ℕ → List ℕ → Handed → S → Type 0) where
  pub hands_end : (end : ConnectionEnd) (n turns : ℕ) (a c : Option (List ℕ)) (held now : List ℕ) (s t u : S) → HasFed (HandsOn hands) (n + 1) a c held s t → n < turns
      → HandsReady (HandsOn hands) (HandsLast hands) (Err end) held now t u → ReadsAndHands hands end turns a c s u
  hands_end Closed n turns a c held now s t u h few p =
      let counted = h.counted in (h.pieces, h.given, omega arith, pass_up_to (HandsOn hands) (HandsLast hands) (concat h.pieces) held s t u h.passed p)
  hands_end (Fault (Header f)) n turns a c held now s t u h few p =
      let counted = h.counted in (h.pieces, h.given, omega arith, pass_before (HandsOn hands) f (concat h.pieces) held s t u h.passed p)
  hands_end End n turns a c held now s t u h few p = absurd p
  hands_end (Fault Read) n turns a c held now s t u h few p = absurd p
  hands_end (Fault Memory) n turns a c held now s t u h few p = absurd p
  hands_end (Fault (Write w)) n turns a c held now s t u h few p = absurd p
  hands_end (Fault TooManyTurns) n turns a c held now s t u h few p = absurd p

  pub read_fault : (f : ConnectFault) (n turns : ℕ) (a b c : Option (List ℕ)) (held now : List ℕ) (s t : S) → HasRead (HandsOn hands) n a b held s t → n < turns
      → TakesPiece (Err f) b c held now → ReadsAndHands hands (Fault f) turns a c s t
  read_fault Read n turns a b c held now s t h few p =
      let counted = h.counted in (h.pieces, no_more a b c h.pieces h.given p, omega arith, h.passed)
  read_fault Memory n turns a b c held now s t h few p =
      let counted = longer h.pieces p.0 n h.counted in
      (h.pieces ++ p.0 ∷ [], one_more a b c h.pieces p.0 h.given p.1 p.2, omega arith, (concat h.pieces, p.0, snoc h.pieces p.0, h.passed))
  read_fault (Write w) n turns a b c held now s t h few p = absurd p
  read_fault (Header f) n turns a b c held now s t h few p = absurd p
  read_fault TooManyTurns n turns a b c held now s t h few p = absurd p

  pub read_end : (n turns : ℕ) (a b c : Option (List ℕ)) (held now : List ℕ) (s t : S) → HasRead (HandsOn hands) n a b held s t → n < turns
      → TakesPiece (Ok turn.End) b c held now → ReadsAndHands hands End turns a c s t
  read_end n turns a b c held now s t h few p =
      let counted = h.counted in (h.pieces, no_more a b c h.pieces h.given p.0, omega arith, h.passed)

  pub read_out : (n turns : ℕ) (a b : Option (List ℕ)) (held : List ℕ) (s t : S) → HasRead (HandsOn hands) n a b held s t → n ≡ turns
      → ReadsAndHands hands (Fault TooManyTurns) turns a b s t
  read_out n turns a b held s t h e = let counted = h.counted in (h.pieces, h.given, counted ∙ e, h.passed)
