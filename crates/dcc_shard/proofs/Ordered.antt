-- Subscribers in their order, each once.
use Rattle.std.proofs.Common.{◌≡◌, ◌≢◌, Bool, true, false, List, [], ◌∷◌, ◌++◌, Option, Some, None, refl, sym, ap, subst, ◌∙◌, inl, inr, rules}
use Rattle.std.specs.Prelude.{is_none, not}
use Rattle.std.specs.Map.{keys_of}
use Rattle.std.specs.Cmp.{IsTotalOrder}
use Rattle.std.specs.Ordering.{eq_by_cmp}
use Rattle.std.specs.Cmp.Rules.{comparing}
use Rattle.std.specs.List.{dedup, dedup_from, AllByRecursion, IsDistinct}
use Rattle.std.specs.List.Sorted.{IsSorted, IsStrictlySortedBy, IsPermutation}
use Rattle.std.proofs.lemmas.Bool.{cases_Bool}
use Rattle.std.proofs.lemmas.List.{append-nil}
use Rattle.std.proofs.lemmas.List.Kept.{IsStrictlySortedBy-dedup}
use Rattle.std.proofs.lemmas.List.Sorted.{list_any-IsPermutation}
use Rattle.std.proofs.lemmas.Map.Keys.{IsDistinct-IsPermutation}
use Rattle.dcc_act.specs.declared.sub.Sub.{Sub}
use Rattle.dcc_act.specs.Subs.{same_sub}
use Rattle.dcc_account.specs.declared.account.Account.{Account}
use Rattle.dcc_store.specs.Books.{sub_order}
use Rattle.dcc_shard.specs.Shards.{account_in, held_in, is_among}
use Rattle.dcc_shard.proofs.BookRows.{Rows, acts_held}

is_total : IsTotalOrder sub_order
is_total = search (comparing, rules)

-- whether the second is the first
abbrev is_again : Sub → Sub → Bool
is_again a b = same_sub b a

pub turned : (a b : Sub) → same_sub a b ≡ same_sub b a
turned = search (comparing, rules)

ties : (a b : Sub) → is_again a b ≡ eq_by_cmp sub_order a b
ties = search (comparing, rules)

-- subscribers that differ all stay where those that follow an equal one are left out
kept_behind : (first : Sub) (subs : List Sub) → AllByRecursion (λ one. same_sub first one ≡ false) subs → IsDistinct same_sub subs → dedup_from is_again first subs ≡ first ∷ subs
unfolding IsDistinct
kept_behind first [] apart distinct = refl
kept_behind first (sub ∷ subs) apart distinct = rw apart.0 (ap (λ (all : List Sub). first ∷ all) (kept_behind sub subs distinct.0 distinct.1))

all_kept : (subs : List Sub) → IsDistinct same_sub subs → dedup is_again subs ≡ subs
unfolding IsDistinct
all_kept [] distinct = refl
all_kept (sub ∷ subs) distinct = kept_behind sub subs distinct.0 distinct.1

pub strictly_sorted : (subs : List Sub) → IsSorted sub_order subs → IsDistinct same_sub subs → IsStrictlySortedBy sub_order subs
strictly_sorted subs sorted distinct = subst (IsStrictlySortedBy sub_order) (all_kept subs distinct) (IsStrictlySortedBy-dedup is_total {E = is_again} ties subs sorted)

-- a subscriber has an account just where it is one of the keys
found_among : (rows : Rows) (sub : Sub) → is_none (account_in rows sub) ≡ not (is_among sub (keys_of rows))
found_among [] sub = refl
found_among (row ∷ rows) sub =
    elim (cases_Bool (same_sub sub row.0)) [
      | inl t ↦ rw (turned row.0 sub, t) refl
      | inr f ↦ rw (turned row.0 sub, f) (found_among rows sub)
    ]

held_some : (found : Option Account) → is_none found ≡ false → ((account : Account) → found ≡ Some account → account.acts ≢ []) → acts_held found ≢ []
held_some None some begun = absurd cc
held_some (Some account) some begun = begun account refl

held_none : (found : Option Account) → is_none found ≡ true → acts_held found ≡ []
held_none None none = refl
held_none (Some account) none = absurd cc

pub some_held : (rows : Rows) (sub : Sub) → ((account : Account) → account_in rows sub ≡ Some account → account.acts ≢ []) → is_among sub (keys_of rows) ≡ true → held_in rows sub ≢ []
some_held rows sub begun among = held_some (account_in rows sub) (found_among rows sub ∙ ap not among) begun

pub none_held : (rows : Rows) (sub : Sub) → is_among sub (keys_of rows) ≡ false → held_in rows sub ≡ []
none_held rows sub apart = held_none (account_in rows sub) (found_among rows sub ∙ ap not apart)

-- keys that were taken out one by one, and then sorted
pub record AreSorted (rows : Rows) (subs : List Sub) : Type 0 where
  pub moved : IsPermutation (keys_of rows) subs
  pub order : IsStrictlySortedBy sub_order subs

pub sorted_keys : (rows : Rows) (taken rest subs : List Sub) → taken ++ rest ≡ keys_of rows → rest ≡ [] → IsDistinct same_sub (keys_of rows) → IsPermutation taken subs
    → IsSorted sub_order subs → AreSorted rows subs
sorted_keys rows taken rest subs all none distinct moved sorted =
    let all_taken : keys_of rows ≡ taken = sym all ∙ ap (λ (more : List Sub). taken ++ more) none ∙ append-nil taken in
    let moves : IsPermutation (keys_of rows) subs = subst (λ (xs : List Sub). IsPermutation xs subs) (sym all_taken) moved in
    record { moved = moves; order = strictly_sorted subs sorted (IsDistinct-IsPermutation same_sub turned (keys_of rows) subs moves distinct) }

-- a subscriber is among them just where it is a key
pub among_sorted : (rows : Rows) (subs : List Sub) (sub : Sub) → AreSorted rows subs → is_among sub (keys_of rows) ≡ is_among sub subs
among_sorted rows subs sub sorted = list_any-IsPermutation (λ one. same_sub one sub) (keys_of rows) subs sorted.moved
