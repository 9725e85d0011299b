-- Subscribers of whom no call is counted: each of their acts has an audited receipt.
use Rattle.std.proofs.Common.{◌≡◌, ◌≤◌, ◌<◌, ◌+◌, ℕ, Bool, true, false, cond, not, ◌&&◌, ◌||◌, ◌==◌, length, map, take, get_or, List, [], ◌∷◌, ◌++◌, refl, sym, ap, subst, ◌∙◌, inl, inr, arith}
use Rattle.std.proofs.lemmas.Bool.{cases_Bool}
use Rattle.std.specs.List.{list_all}
use Rattle.std.proofs.lemmas.List.{map-append, take_more}
use Rattle.std.proofs.lemmas.List.Elements.{filter-append}
use Rattle.std.proofs.lemmas.List.Folds.{list_all-append, list_any-append}
use Rattle.std.proofs.lemmas.List.Sums.{sum_by-append}
use Rattle.dcc_act.specs.declared.sub.Sub.{Sub}
use Rattle.dcc_act.specs.Subs.{same_sub, SameAreEqual}
use Rattle.dcc_store.specs.Books.{Held}
use Rattle.dcc_receipts.specs.Audit.{own, times}
use Rattle.dcc_receipts.specs.declared.receipt.Receipt.{Receipt}
use Rattle.dcc_running.specs.declared.lock.Place.{Place}
use Rattle.dcc_running.specs.inner.Touches.{Touched, is_touched}
use Rattle.dcc_running.specs.inner.Wards.{AreAllTold, AreSettled}
use Rattle.dcc_running.proofs.Growth.{not_both}
use Rattle.dcc_shard.specs.Batches.{sub_of}
use Rattle.dcc_shard.specs.Shards.{is_among}
use Rattle.dcc_shard.specs.Stored.{StoredView}
use Rattle.dcc_shard.specs.declared.call.Call.{Call}

or_not : (a b : Bool) → (a ≡ true → b ≡ true) → b ≡ false → a ≡ false
or_not true b more unset = absurd (not_both b (more refl) unset)
or_not false b more unset = refl

-- more calls are counted
pub settled_grown : {R : Type 0} (opening : Held) (place : Place) (part : StoredView R) (old new : Touched) (told : List Receipt)
    → ((sub : Sub) → is_touched old sub ≡ true → is_touched new sub ≡ true) → AreSettled opening place part old told → AreSettled opening place part new told
settled_grown opening place part old new told more are sub here untouched =
    are sub here (or_not (is_touched old sub) (is_touched new sub) (more sub) untouched)

-- the same calls are counted
pub settled_alike : {R : Type 0} (opening : Held) (place : Place) (part : StoredView R) (old new : Touched) (told : List Receipt)
    → ((sub : Sub) → is_touched new sub ≡ is_touched old sub) → AreSettled opening place part old told → AreSettled opening place part new told
settled_alike opening place part old new told alike are sub here untouched = are sub here (sym (alike sub) ∙ untouched)

-- of one subscriber none is counted any more: each of its acts has a receipt
pub settled_less : {R : Type 0} → SameAreEqual → (opening : Held) (place : Place) (part : StoredView R) (old new : Touched) (told : List Receipt) (one : Sub)
    → AreAllTold opening part.shard told one → ((sub : Sub) → is_touched new sub ≡ (not (same_sub one sub) && is_touched old sub))
    → AreSettled opening place part old told → AreSettled opening place part new told
settled_less same opening place part old new told one all updates are sub here untouched =
    elim (cases_Bool (same_sub one sub)) [
      | inl this ↦ subst (λ (s : Sub). AreAllTold opening part.shard told s) ((same one sub).0 this) all
      | inr other ↦ are sub here (sym (ap (λ b. not b && is_touched old sub) other) ∙ (sym (updates sub) ∙ untouched))
    ]

-- one receipt more is told
one_more : (sub : Sub) (place : ℕ) (told : List Receipt) (r : Receipt) → times place (own sub told) ≤ times place (own sub (told ++ r ∷ []))
one_more sub place told r =
    let both : own sub (told ++ r ∷ []) ≡ own sub told ++ own sub (r ∷ []) = filter-append (λ (x : Receipt). same_sub x.sub sub) told (r ∷ []) in
    let sum : times place (own sub (told ++ r ∷ [])) ≡ times place (own sub told) + times place (own sub (r ∷ [])) =
    ap (times place) both ∙ sum_by-append (λ (x : Receipt). cond (x.fresh && (x.place == place)) 1 0) (own sub told) (own sub (r ∷ [])) in
    omega (arith, sum)

pub settled_more : {R : Type 0} (opening : Held) (place : Place) (part : StoredView R) (touched : Touched) (told new : List Receipt) (r : Receipt) → new ≡ told ++ r ∷ []
    → ((sub : Sub) (at : ℕ) → times at (own sub new) ≤ 1) → AreSettled opening place part touched told → AreSettled opening place part touched new
settled_more opening place part touched told new r is once are sub here untouched at low high =
    let was = are sub here untouched at low high in
    let most = once sub at in
    let least : times at (own sub told) ≤ times at (own sub new) = subst (λ (l : List Receipt). times at (own sub told) ≤ times at (own sub l)) (sym is) (one_more sub at told r) in
    omega (arith, was, most, least)

-- one receipt more is true
pub told_more : (p : Receipt → Bool) (told new : List Receipt) (r : Receipt) → new ≡ told ++ r ∷ [] → list_all p told ≡ true → p r ≡ true → list_all p new ≡ true
told_more p told new r is all one =
    let both : list_all p new ≡ (list_all p told && list_all p (r ∷ [])) = ap (λ (l : List Receipt). list_all p l) is ∙ list_all-append p told (r ∷ []) in
    both ∙ rw (all, one) refl

-- one call more is counted
pub touched_more : SameAreEqual → (touched now : Touched) (calls : List Call) (i : ℕ) (call : Call) → i < length calls → call ≡ get_or calls i call
    → ((sub : Sub) → is_among sub (map sub_of (take i calls)) ≡ true → is_touched touched sub ≡ true)
    → ((sub : Sub) → is_touched touched sub ≡ true → is_touched now sub ≡ true) → is_touched now (sub_of call) ≡ true
    → (sub : Sub) → is_among sub (map sub_of (take (i + 1) calls)) ≡ true → is_touched now sub ≡ true
touched_more same touched now calls i call within is before kept here sub among =
    let list : take (i + 1) calls ≡ take i calls ++ call ∷ [] = take_more calls i call within ∙ ap (λ (one : Call). take i calls ++ one ∷ []) (sym is) in
    let subs : map sub_of (take (i + 1) calls) ≡ map sub_of (take i calls) ++ sub_of call ∷ [] = ap (λ (l : List Call). map sub_of l) list ∙ map-append sub_of (take i calls) (call ∷ []) in
    let parts : is_among sub (map sub_of (take (i + 1) calls)) ≡ (is_among sub (map sub_of (take i calls)) || is_among sub (sub_of call ∷ [])) =
    ap (λ (l : List Sub). is_among sub l) subs ∙ list_any-append (λ (s : Sub). same_sub s sub) (map sub_of (take i calls)) (sub_of call ∷ []) in
    elim (cases_Bool (is_among sub (map sub_of (take i calls)))) [
      | inl earlier ↦ kept sub (before sub earlier)
      | inr not_earlier ↦ elim (cases_Bool (same_sub (sub_of call) sub)) [
        | inl this ↦ subst (λ (s : Sub). is_touched now s ≡ true) ((same (sub_of call) sub).0 this) here
        | inr other ↦ (let no : false ≡ true = rw (not_earlier, other) at (sym parts ∙ among) in absurd cc)
      ]
    ]
