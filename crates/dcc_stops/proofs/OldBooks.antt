-- The tables of a store of layout 1 hold one book alone.
use Rattle.std.proofs.Common.{◌≡◌, ℕ, suc, ◌+◌, List, [], ◌∷◌, slice_get, Some, refl, ap₂, arith}
use Rattle.sqlite.specs.Tree.{Trees}
use Rattle.dcc_tariff.specs.Terms.{TermsView}
use Rattle.dcc_act.specs.declared.act.Act.{Act}
use Rattle.dcc_act.specs.declared.sub.Sub.{Sub}
use Rattle.dcc_act_codec.specs.OldRecords.{old_record_of, IsOldAct}
use Rattle.dcc_store.specs.Books.{Held}
use Rattle.dcc_sqlite_store.specs.Content.{HoldsOldBook}

-- records of version 1 that are read back are what was written
abbrev pub OldDiffer : Type 0
OldDiffer = (a b : Act) → IsOldAct a → IsOldAct b → old_record_of a ≡ old_record_of b → a ≡ b

same_places : {X : Type 0} (xs ys : List X) → ((i : ℕ) (x : X) → slice_get xs i ≡ Some x → slice_get ys i ≡ Some x) → ((i : ℕ) (y : X) → slice_get ys i ≡ Some y → slice_get xs i ≡ Some y) → xs ≡ ys
same_places [] [] there back = refl
same_places [] (y ∷ ys) there back = absurd (let e = back 0 y refl in cc)
same_places (x ∷ xs) [] there back = absurd (let e = there 0 x refl in cc)
same_places {X} (x ∷ xs) (y ∷ ys) there back =
    let e = there 0 x refl in
    let heads : x ≡ y = cc in
    ap₂ (λ (h : X) (t : List X). h ∷ t) heads (same_places xs ys (λ i z h. there (suc i) z h) (λ i z h. back (suc i) z h))

same_sub : (a b : Sub) → a.kind ≡ b.kind → a.name ≡ b.name → a ≡ b
same_sub a b kinds names = ap₂ (λ (k : ℕ) (n : List ℕ). let s : Sub = record { kind = k; name = n } in s) kinds names

move : (b : Held) (s t : Sub) (i j : ℕ) (x y : Act) → s ≡ t → i ≡ j → x ≡ y → slice_get (b t) j ≡ Some y → slice_get (b s) i ≡ Some x
move b s t i j x y e f g h = rw (e, f, g) h

module _ (differ : OldDiffer) (terms : TermsView) (db : Trees) where
  half : (a b : Held) → HoldsOldBook terms db a → HoldsOldBook terms db b → (s : Sub) (i : ℕ) (x : Act) → slice_get (a s) i ≡ Some x → slice_get (b s) i ≡ Some x
  half a b ha hb s i x h =
      let o = hb.acts.only _ (ha.acts.there _ (s, i, x, h, refl)) in
      let kinds : s.kind ≡ o.0.kind = let e = o.4 in cc in
      let names : s.name ≡ o.0.name = let e = o.4 in cc in
      let places : i + 1 ≡ o.1 + 1 = let e = o.4 in cc in
      let bodies : old_record_of x ≡ old_record_of o.2 = let e = o.4 in cc in
      move b s o.0 i o.1 x o.2 (same_sub s o.0 kinds names) (omega (arith, places)) (differ x o.2 (ha.fits s i x h) (hb.fits o.0 o.1 o.2 o.3) bodies) o.3

  pub one_old_book : (a b : Held) → HoldsOldBook terms db a → HoldsOldBook terms db b → a ≡ b
  one_old_book a b ha hb = λ i s. same_places (a s) (b s) (half a b ha hb s) (half b a hb ha s) i
