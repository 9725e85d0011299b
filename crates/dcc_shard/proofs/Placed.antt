-- Whether subscribers are those of one shard.
use Rattle.std.proofs.Common.{◌≡◌, ◌||◌, ◌&&◌, Bool, true, false, List, [], ◌∷◌, refl, inl, inr, subst}
use Rattle.std.specs.List.{list_all}
use Rattle.std.proofs.lemmas.Bool.{cases_Bool}
use Rattle.dcc_act.specs.declared.sub.Sub.{Sub}
use Rattle.dcc_act.specs.Subs.{same_sub, SameAreEqual}
use Rattle.dcc_shard.specs.Shards.{is_among}

both : (a b : Bool) → (a && b) ≡ true → (a ≡ true) × (b ≡ true)
both true b all = (refl, all)
both false b all = cc

either : (a b : Bool) → b ≡ true → (a || b) ≡ true
either true b is = refl
either false b is = is

-- what holds of all of these holds of each that is among them
pub each_of : SameAreEqual → (test : Sub → Bool) (subs : List Sub) (sub : Sub) → list_all test subs ≡ true → is_among sub subs ≡ true → test sub ≡ true
each_of law test [] sub all among = cc
each_of law test (one ∷ subs) sub all among =
    let parts = both (test one) (list_all test subs) all in
    elim (cases_Bool (same_sub one sub)) [
      | inl same ↦ subst (λ (s : Sub). test s ≡ true) ((law one sub).0 same) parts.0
      | inr other ↦ each_of law test subs sub parts.1 (rw other at among)
    ]

-- and what holds of each that is among them holds of all
pub all_of : SameAreEqual → (test : Sub → Bool) (subs : List Sub) → ((sub : Sub) → is_among sub subs ≡ true → test sub ≡ true) → list_all test subs ≡ true
all_of law test [] each = refl
all_of law test (one ∷ subs) each =
    let here : is_among one (one ∷ subs) ≡ true = rw ((law one one).1 refl) refl in
    let first : test one ≡ true = each one here in
    let rest : list_all test subs ≡ true = all_of law test subs (λ sub among. each sub (either (same_sub one sub) (is_among sub subs) among)) in
    rw (first, rest) refl
