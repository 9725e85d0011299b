-- The subscribers of shards, by shard and then in their own order.
use Rattle.std.proofs.Common.{◌≡◌, ◌≢◌, ℕ, ◌+◌, ◌<◌, ◌==◌, ◌||◌, Bool, true, false, List, [], ◌∷◌, ◌++◌, filter, refl, ◌⊎◌, sym, ap, ◌∙◌, arith, inl, inr, true≢false, rules}
use Rattle.std.specs.Prelude.{nat_lt}
use Rattle.std.specs.Cmp.{IsTotalOrder}
use Rattle.std.specs.Cmp.Rules.{comparing}
use Rattle.std.specs.List.{AllByRecursion}
use Rattle.std.specs.List.Sorted.{IsStrictlySortedBy}
use Rattle.std.specs.Ordering.{nat_cmp, ordering_then}
use Rattle.std.specs.declared.cmp.Ordering.{Ordering}
use Rattle.std.specs.declared.cmp.Ordering.TheVariants.{Less, Equal}
use Rattle.std.proofs.lemmas.Bool.{cases_Bool, false_from_ne_true, eqb-true, eq-eqb, lt-ltb}
use Rattle.std.proofs.lemmas.Cmp.{tied_itself, nat_cmp_total}
use Rattle.std.proofs.lemmas.List.Folds.{list_any-append}
use Rattle.std.proofs.lemmas.List.Kept.{IsStrictlySortedBy-filter}
use Rattle.dcc_act.specs.declared.act.Act.{Act}
use Rattle.dcc_act.specs.declared.sub.Sub.{Sub}
use Rattle.dcc_act.specs.Subs.{same_sub, SameAreEqual}
use Rattle.dcc_store.specs.Books.{sub_order}
use Rattle.dcc_shard.specs.Shards.{is_among, are_apart}
use Rattle.dcc_shard.specs.Routes.{shard_of, route_order}
use Rattle.dcc_shard.proofs.Batching.{neither}

routes_total : (count : ℕ) → IsTotalOrder (route_order count)
routes_total count = search (comparing, rules)

-- of two numbers the first decides, and where they are one what is asked next
first_less : (n m : ℕ) (next : Ordering) → n < m → ordering_then (nat_cmp n m) next ≡ Less
first_less n m next below = let less : nat_lt n m ≡ true = lt-ltb n m below in rw less refl

then_next : (n m : ℕ) (next : Ordering) → n ≡ m → ordering_then (nat_cmp n m) next ≡ next
then_next n m next one =
    let is : nat_cmp n m ≡ Equal = ap (nat_cmp n) (sym one) ∙ tied_itself nat_cmp_total n in
    ap (λ (o : Ordering). ordering_then o next) is

by_shard : (count : ℕ) (a b : Sub) → shard_of a count < shard_of b count → route_order count a b ≡ Less
by_shard count a b below = first_less (shard_of a count) (shard_of b count) (sub_order a b) below

within_shard : (count : ℕ) (a b : Sub) → shard_of a count ≡ shard_of b count → sub_order a b ≡ Less → route_order count a b ≡ Less
within_shard count a b one less = then_next (shard_of a count) (shard_of b count) (sub_order a b) one ∙ less

-- whether a subscriber belongs to this shard
abbrev pub belongs : ℕ → ℕ → Sub → Bool
belongs count i sub = shard_of sub count == i

all_belong : (count i : ℕ) (subs : List Sub) → AllByRecursion (λ s. shard_of s count ≡ i) (filter (belongs count i) subs)
all_belong count i [] = tt
all_belong count i (sub ∷ subs) = elim (cases_Bool (belongs count i sub)) [
  | inl t ↦ rw t (eqb-true (shard_of sub count) i t, all_belong count i subs)
  | inr f ↦ rw f (all_belong count i subs)
]

-- those of one shard, in their own order, are in the order of routes
behind_one : (count i : ℕ) (sub : Sub) (subs : List Sub) → shard_of sub count ≡ i → AllByRecursion (λ s. shard_of s count ≡ i) subs → AllByRecursion (λ s. sub_order sub s ≡ Less) subs
    → AllByRecursion (λ s. route_order count sub s ≡ Less) subs
behind_one count i sub [] here all less = tt
behind_one count i sub (one ∷ subs) here all less = (within_shard count sub one (here ∙ sym all.0) less.0, behind_one count i sub subs here all.1 less.1)

one_shard : (count i : ℕ) (subs : List Sub) → AllByRecursion (λ s. shard_of s count ≡ i) subs → IsStrictlySortedBy sub_order subs → IsStrictlySortedBy (route_order count) subs
unfolding IsStrictlySortedBy
one_shard count i [] all sorted = tt
one_shard count i (sub ∷ subs) all sorted = (behind_one count i sub subs all.0 all.1 sorted.0, one_shard count i subs all.1 sorted.1)

-- two lists in order, of which the first is below the second
all_join : (P : Sub → Type 0) (xs ys : List Sub) → AllByRecursion P xs → AllByRecursion P ys → AllByRecursion P (xs ++ ys)
all_join P [] ys all more = more
all_join P (x ∷ xs) ys all more = (all.0, all_join P xs ys all.1 more)

before_all : (count i : ℕ) (sub : Sub) (ys : List Sub) → shard_of sub count < i → AllByRecursion (λ s. shard_of s count ≡ i) ys → AllByRecursion (λ s. route_order count sub s ≡ Less) ys
before_all count i sub [] below all = tt
before_all count i sub (y ∷ ys) below all = (by_shard count sub y (let e = all.0 in omega (arith, below, e)), before_all count i sub ys below all.1)

joined : (count i : ℕ) (xs ys : List Sub) → IsStrictlySortedBy (route_order count) xs → IsStrictlySortedBy (route_order count) ys → AllByRecursion (λ s. shard_of s count < i) xs
    → AllByRecursion (λ s. shard_of s count ≡ i) ys → IsStrictlySortedBy (route_order count) (xs ++ ys)
unfolding IsStrictlySortedBy
joined count i [] ys sorted more below all = more
joined count i (x ∷ xs) ys sorted more below all =
    (all_join (λ s. route_order count x s ≡ Less) xs ys sorted.0 (before_all count i x ys below.0 all), joined count i xs ys sorted.1 more below.1 all)

-- in order, each is there once
apart_behind : SameAreEqual → (count : ℕ) (sub : Sub) (subs : List Sub) → AllByRecursion (λ s. route_order count sub s ≡ Less) subs → is_among sub subs ≡ false
apart_behind same count sub [] less = refl
apart_behind same count sub (one ∷ subs) less =
    let apart : same_sub one sub ≡ false = false_from_ne_true (same_sub one sub) (λ t.
    let e : one ≡ sub = (same one sub).0 t in
    let self : route_order count sub sub ≡ Less = ap (route_order count sub) (sym e) ∙ less.0 in
    let tied : route_order count sub sub ≡ Equal = tied_itself (routes_total count) sub in
    absurd cc) in
    rw apart (apart_behind same count sub subs less.1)

pub once_in_order : SameAreEqual → (count : ℕ) (subs : List Sub) → IsStrictlySortedBy (route_order count) subs → are_apart subs ≡ true
unfolding IsStrictlySortedBy
once_in_order same count [] sorted = refl
once_in_order same count (sub ∷ subs) sorted = rw (apart_behind same count sub subs sorted.0) (once_in_order same count subs sorted.1)

-- those of the shards up to one
pub record AreUpTo (count i : ℕ) (held : Sub → List Act) (all : List Sub) : Type 0 where
  pub order : IsStrictlySortedBy (route_order count) all
  pub below : AllByRecursion (λ s. shard_of s count < i) all
  pub some : (sub : Sub) → is_among sub all ≡ true → held sub ≢ []
  pub none : (sub : Sub) → shard_of sub count < i → is_among sub all ≡ false → held sub ≡ []

pub up_to_none : (count : ℕ) (held : Sub → List Act) → AreUpTo count 0 held []
unfolding IsStrictlySortedBy
up_to_none count held = record { order = tt; below = tt; some = λ sub among. absurd (true≢false (sym among)); none = λ sub below. absurd (omega (arith, below)) }

below_next : (count i : ℕ) (xs : List Sub) → AllByRecursion (λ s. shard_of s count < i) xs → AllByRecursion (λ s. shard_of s count < i + 1) xs
below_next count i [] all = tt
below_next count i (x ∷ xs) all = (let b = all.0 in omega (arith, b), below_next count i xs all.1)

below_same : (count i : ℕ) (xs : List Sub) → AllByRecursion (λ s. shard_of s count ≡ i) xs → AllByRecursion (λ s. shard_of s count < i + 1) xs
below_same count i [] all = tt
below_same count i (x ∷ xs) all = (let e = all.0 in omega (arith, e), below_same count i xs all.1)

-- a subscriber is among those that stay where it stays and was among them
among_kept : SameAreEqual → (keeps : Sub → Bool) (subs : List Sub) (sub : Sub) → keeps sub ≡ true → is_among sub (filter keeps subs) ≡ is_among sub subs
among_kept same keeps [] sub stays = refl
among_kept same keeps (one ∷ subs) sub stays = elim (cases_Bool (keeps one)) [
  | inl k ↦ rw k (ap (λ (b : Bool). same_sub one sub || b) (among_kept same keeps subs sub stays))
  | inr n ↦
      let apart : same_sub one sub ≡ false = false_from_ne_true (same_sub one sub) (λ t. let e = ap keeps ((same one sub).0 t) in absurd (true≢false (sym stays ∙ sym e ∙ n))) in
      rw (n, apart) (among_kept same keeps subs sub stays)
]

among_join : (xs ys : List Sub) (sub : Sub) → is_among sub (xs ++ ys) ≡ (is_among sub xs || is_among sub ys)
among_join xs ys sub = list_any-append (λ one. same_sub one sub) xs ys

-- and not where it doesn't stay
among_dropped : SameAreEqual → (keeps : Sub → Bool) (subs : List Sub) (sub : Sub) → keeps sub ≡ false → is_among sub (filter keeps subs) ≡ false
among_dropped same keeps [] sub goes = refl
among_dropped same keeps (one ∷ subs) sub goes = elim (cases_Bool (keeps one)) [
  | inl k ↦
      let apart : same_sub one sub ≡ false = false_from_ne_true (same_sub one sub) (λ t. let e = ap keeps ((same one sub).0 t) in absurd (true≢false (sym k ∙ e ∙ goes))) in
      rw (k, apart) (among_dropped same keeps subs sub goes)
  | inr n ↦ rw n (among_dropped same keeps subs sub goes)
]

one_of : (a b : Bool) → (a || b) ≡ true → (a ≡ true) ⊎ (b ≡ true)
one_of true b h = inl refl
one_of false b h = inr h

-- with those of the next shard
pub up_to_next : SameAreEqual → (count i : ℕ) (held : Sub → List Act) (all subs : List Sub) → AreUpTo count i held all → IsStrictlySortedBy sub_order subs
    → ((sub : Sub) → shard_of sub count ≡ i → is_among sub subs ≡ true → held sub ≢ [])
    → ((sub : Sub) → shard_of sub count ≡ i → is_among sub subs ≡ false → held sub ≡ []) → AreUpTo count (i + 1) held (all ++ filter (belongs count i) subs)
up_to_next same count i held all subs before sorted some none =
    let own = filter (belongs count i) subs in
    let of_one = all_belong count i subs in
    record {
      order = joined count i all own before.order (one_shard count i own of_one (IsStrictlySortedBy-filter sub_order (belongs count i) subs sorted)) before.below of_one;
      below = all_join (λ s. shard_of s count < i + 1) all own (below_next count i all before.below) (below_same count i own of_one);
      some = λ sub among.
          elim (one_of (is_among sub all) (is_among sub own) (sym (among_join all own sub) ∙ among)) [
            | inl before_it ↦ before.some sub before_it
            | inr in_own ↦
                elim (cases_Bool (belongs count i sub)) [
                  | inl t ↦ some sub (eqb-true (shard_of sub count) i t) (sym (among_kept same (belongs count i) subs sub t) ∙ in_own)
                  | inr f ↦ absurd (true≢false (sym in_own ∙ among_dropped same (belongs count i) subs sub f))
                ]
          ];
      none = λ sub below apart.
          let both = neither (is_among sub all) (is_among sub own) (sym (among_join all own sub) ∙ apart) in
          elim (cases_Bool (belongs count i sub)) [
            | inl t ↦ none sub (eqb-true (shard_of sub count) i t) (sym (among_kept same (belongs count i) subs sub t) ∙ both.1)
            | inr f ↦ before.none sub (let apart_from : shard_of sub count ≢ i = (λ e. absurd (true≢false (sym (eq-eqb (shard_of sub count) i e) ∙ f))) in omega (arith, below, apart_from)) both.0
          ];
    }
