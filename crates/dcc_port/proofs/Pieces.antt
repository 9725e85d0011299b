-- A sweep, piece by piece.
use Rattle.std.proofs.Common.{◌≡◌, ℕ, ◌+◌, ◌-◌, ◌≤◌, List, [], ◌∷◌, ◌++◌, length, take, drop, append-nil, ap, sym, ◌∙◌, subst, true, false, arith, refl}
use Rattle.std.specs.List.{FoldsTo, between, flat_map}
use Rattle.std.proofs.lemmas.Fn.{FoldsTo-push}
use Rattle.std.proofs.lemmas.Grind.{flat_map-append}
use Rattle.std.proofs.lemmas.List.{take-append-drop, take-take, take_all}
use Rattle.std.proofs.lemmas.List.Edits.{length-between}
use Rattle.std.proofs.lemmas.Slice.{between_is}
use Rattle.dcc_act.specs.Subs.{SubView}
use Rattle.dcc_receipts.specs.declared.receipt.Receipt.{Receipt}
use Rattle.dcc_running.specs.Tallies.{no_tally}
use Rattle.dcc_running.specs.declared.tally.Tally.{Tally}
use Rattle.dcc_port.specs.Answers.{ArePiecesSwept, SweepsPiece}
use Rattle.dcc_port.specs.Servers.{Rules}
use Rattle.dcc_port.specs.declared.sweeping.Swept.{Swept}

-- the first subscribers, so many, were swept
abbrev pub Begun : ℕ → List SubView → ℕ → List Receipt → List Receipt × Tally → Type 0
Begun moment subs at old state =
    (pieces : List (List SubView)) × FoldsTo (SweepsPiece moment) (old, no_tally) pieces state × (flat_map (λ piece. piece) pieces ≡ take at subs)

pub none_begun : (moment : ℕ) (subs : List SubView) (old : List Receipt) → Begun moment subs 0 old (old, no_tally)
none_begun moment subs old = ([], refl, refl)

further : (subs : List SubView) (at len : ℕ) → take at subs ++ between at (at + len) subs ≡ take (at + len) subs
further subs at len =
    ap (λ part. take at subs ++ part) (between_is subs at (at + len))
    ∙ ap (λ part. part ++ drop at (take (at + len) subs)) (sym (take-take at (at + len) subs (omega arith)))
    ∙ take-append-drop at (take (at + len) subs)

-- a piece that begins at a place and is that long
pub within_subs : (subs : List SubView) (at len : ℕ) → len ≤ length (between at (length subs) subs) → at ≤ length subs → at + len ≤ length subs
within_subs subs at len fits begins = omega (arith, fits, begins, length-between subs at (length subs) (omega arith))

pub is_short : (subs : List SubView) (at len most : ℕ) → at + len ≤ length subs → len ≤ most → length (between at (at + len) subs) ≤ most
is_short subs at len most fits few = omega (arith, few, length-between subs at (at + len) fits)

-- a piece more
pub begun_more : (moment : ℕ) (subs : List SubView) (at len : ℕ) (old : List Receipt) (before after : List Receipt × Tally) (piece : List SubView)
    → Begun moment subs at old before → piece ≡ between at (at + len) subs → SweepsPiece moment before piece after
    → Begun moment subs (at + len) old after
begun_more moment subs at len old before after piece begun is step = (
  begun.0 ++ piece ∷ [],
  FoldsTo-push (SweepsPiece moment) (old, no_tally) begun.0 before piece after begun.1 step,
  flat_map-append (λ p. p) begun.0 (piece ∷ []) ∙ ap (λ t. flat_map (λ p. p) begun.0 ++ t) (append-nil piece)
      ∙ ap (λ s. s ++ piece) begun.2 ∙ ap (λ p. take at subs ++ p) is ∙ further subs at len,
)

-- no subscriber is left
pub all_swept : {S : Type 0} (rules : Rules S) (server : S) (moment : ℕ) (subs : List SubView) (at : ℕ) (old new : List Receipt) (tally : Tally)
    → length subs ≤ at → Begun moment subs at old (new, tally)
    → ArePiecesSwept rules server moment subs old (record { tally = tally; whole = true }) new
all_swept rules server moment subs at old new tally past begun = (begun.0, begun.1, begun.2 ∙ take_all at subs past)

-- the server said that it is to end
pub some_swept : {S : Type 0} (rules : Rules S) (server : S) (moment : ℕ) (subs : List SubView) (at : ℕ) (old new : List Receipt) (tally : Tally)
    → rules.says_end server true → Begun moment subs at old (new, tally)
    → ArePiecesSwept rules server moment subs old (record { tally = tally; whole = false }) new
some_swept rules server moment subs at old new tally said begun =
    (begun.0, begun.1, (said, (drop at subs, ap (λ done. done ++ drop at subs) begun.2 ∙ take-append-drop at subs)))
