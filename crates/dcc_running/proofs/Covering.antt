-- Acts that have marks, one shard after another.
use Rattle.std.proofs.Common.{◌≡◌, ℕ, ◌+◌, ◌<◌, ◌≤◌, ◌||◌, true, false, nat_lt, List, [], ◌∷◌, ◌++◌, length, take, get_or, slice_get, Some, refl, sym, ap, subst, ◌∙◌, inl, inr, arith}
use Rattle.std.proofs.lemmas.Bool.{cases_Bool}
use Rattle.std.proofs.lemmas.Grind.{common_steps}
use Rattle.std.proofs.lemmas.List.{take_more}
use Rattle.std.proofs.lemmas.List.Folds.{list_any-append}
use Rattle.std.proofs.lemmas.Option.{slice_get_read}
use Rattle.dcc_act.specs.declared.act.Act.{Act}
use Rattle.dcc_act.specs.declared.sub.Sub.{Sub}
use Rattle.dcc_act.specs.Subs.{same_sub, SameAreEqual}
use Rattle.dcc_receipts.specs.Marks.{MarksView}
use Rattle.dcc_running.specs.declared.lock.Side.{Side}
use Rattle.dcc_running.specs.inner.Marked.{IsCovered}
use Rattle.dcc_shard.specs.Routes.{shard_of}
use Rattle.dcc_shard.specs.Shards.{held, is_among}
use Rattle.dcc_shard.specs.Stored.{StoredView}
use Rattle.dcc_store.specs.Books.{Held}
use Rattle.dcc_running.specs.Books.{book, held_by}

pub next_covered : {R : Type 0} (parts : List (StoredView R)) (opening : Held) (marks : MarksView) (sides : List Side) (subs : List Sub) (i : ℕ) (part : StoredView R)
    → i < length parts → part ≡ get_or parts i part → ((sub : Sub) → is_among sub subs ≡ false → held part.shard sub ≡ [])
    → ((sub : Sub) (place : ℕ) → shard_of sub (length parts) < i → length (opening sub) < place → place ≤ length (book parts sub) → IsCovered marks sides sub place)
    → ((sub : Sub) (place : ℕ) → is_among sub subs ≡ true → length (opening sub) < place → place ≤ length (book parts sub) → IsCovered marks sides sub place)
    → (sub : Sub) (place : ℕ) → shard_of sub (length parts) < i + 1 → length (opening sub) < place → place ≤ length (book parts sub) → IsCovered marks sides sub place
next_covered {R} parts opening marks sides subs i part within is none before here sub place upto low high =
    let r = shard_of sub (length parts) in
    elim (cases_Bool (nat_lt r i)) [
      | inl lower ↦ let lt : r < i = grind (arith, common_steps) in before sub place lt low high
      | inr not_lower ↦ elim (cases_Bool (is_among sub subs)) [
        | inl among ↦ here sub place among low high
        | inr others ↦
            let e : r ≡ i = grind (arith, common_steps) in
            let there : slice_get parts i ≡ Some part = slice_get_read parts (length parts) i part refl within is in
            let b : book parts sub ≡ [] =
            ap (λ (k : ℕ). held_by (slice_get parts k) sub) e ∙ (ap (λ o. held_by o sub) there ∙ none sub others) in
            let n : length (book parts sub) ≡ 0 = ap (λ (l : List Act). length l) b in
            absurd (omega (arith, n, low, high))
      ]
    ]

-- what holds of the subscribers before one, and of this one, holds of all these
pub next_among : SameAreEqual → (P : Sub → Type 0) (subs : List Sub) (i : ℕ) (one : Sub) → i < length subs → one ≡ get_or subs i one
    → ((sub : Sub) → is_among sub (take i subs) ≡ true → P sub) → P one → (sub : Sub) → is_among sub (take (i + 1) subs) ≡ true → P sub
next_among same P subs i one within is before here sub among =
    let list : take (i + 1) subs ≡ take i subs ++ one ∷ [] = take_more subs i one within ∙ ap (λ (s : Sub). take i subs ++ s ∷ []) (sym is) in
    let parts : is_among sub (take (i + 1) subs) ≡ (is_among sub (take i subs) || is_among sub (one ∷ [])) =
    ap (λ (l : List Sub). is_among sub l) list ∙ list_any-append (λ (s : Sub). same_sub s sub) (take i subs) (one ∷ []) in
    elim (cases_Bool (is_among sub (take i subs))) [
      | inl earlier ↦ before sub earlier
      | inr not_earlier ↦ elim (cases_Bool (same_sub one sub)) [
        | inl this ↦ subst P ((same one sub).0 this) here
        | inr other ↦ (let no : false ≡ true = rw (not_earlier, other) at (sym parts ∙ among) in absurd cc)
      ]
    ]
