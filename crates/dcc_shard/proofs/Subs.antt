-- Whether two subscribers are one.
use Rattle.std.proofs.Common.{◌≡◌, ◌≢◌, true, false, refl, ◌⊎◌, inl, inr}
use Rattle.std.proofs.lemmas.Bool.{false_from_ne_true, cases_Bool}
use Rattle.dcc_act.specs.declared.sub.Sub.{Sub}
use Rattle.dcc_act.specs.Subs.{same_sub, SameAreEqual}

pub same_sub-same : SameAreEqual → (a : Sub) → same_sub a a ≡ true
same_sub-same law a = (law a a).1 refl

pub same_sub-other : SameAreEqual → (a b : Sub) → a ≢ b → same_sub a b ≡ false
same_sub-other law a b apart = false_from_ne_true (same_sub a b) (λ h. apart ((law a b).0 h))

same_sub-apart : SameAreEqual → (a b : Sub) → same_sub a b ≡ false → a ≢ b
same_sub-apart law a b h e = let same : same_sub a b ≡ true = (law a b).1 e in absurd cc

pub one_or_other : SameAreEqual → (a b : Sub) → (a ≡ b) ⊎ (a ≢ b)
one_or_other law a b = elim (cases_Bool (same_sub a b)) [ inl t ↦ inl ((law a b).0 t) | inr f ↦ inr (same_sub-apart law a b f) ]
