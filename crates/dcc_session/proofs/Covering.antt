-- Holds of one pool, and what covers them.
use Rattle.std.proofs.Common.{ℤ, ◌∙◌, ◌≡◌, ℕ, ◌+◌, ◌<◌, List, [], ◌∷◌, length, get_or, take, refl, ap, inl, inr, arith, map}
use Rattle.std.specs.List.{All, insert}
use Rattle.std.proofs.lemmas.Int.{ints}
use Rattle.std.proofs.lemmas.List.Elements.{All-map}
use Rattle.std.proofs.lemmas.List.Sums.{sum_by_more_le}
use Rattle.dcc_escrow.specs.Pools.{PoolView, HoldView, IsCovered}
use Rattle.dcc_session.specs.declared.held.Held.{Held}
use Rattle.dcc_session.specs.Grants.{held_price, prices}
use Rattle.dcc_session.specs.inner.Holds.{hold_of}

pub of_pool : (pool : ℕ) (grants : List Held) → All (λ (hold : HoldView). hold.pool ≡ pool) (map (hold_of pool) grants)
of_pool pool grants = All-map (λ (hold : HoldView). hold.pool ≡ pool) (hold_of pool) grants (λ k d lt. refl)

-- where all are covered, each is after those before it
pub covered_part : (pool : PoolView) (grants : List Held) (i : ℕ) (held : Held) → i < length grants → held ≡ get_or grants i held
    → IsCovered pool (prices grants) → IsCovered (record pool { reserved = pool.reserved + prices (take i grants) }) (held_price held)
covered_part pool grants i held within is covered =
    let all = sum_by_more_le held_price grants i held within in
    let here = ap held_price is in
    elim covered [
      | inl nothing ↦ inl (omega arith)
      | inr enough ↦ inr (omega (arith, ints))
    ]

pub insert_first : {X : Type 0} (xs : List X) (x : X) → insert xs 0 x ≡ x ∷ xs
insert_first [] x = refl
insert_first (y ∷ xs) x = refl

-- a pool is known by its parts
pub pool_is : (pool : PoolView) (id : ℕ) (committed : ℤ) (reserved : ℕ) → pool.id ≡ id → pool.committed ≡ committed → pool.reserved ≡ reserved
    → pool ≡ record { id = id; committed = committed; reserved = reserved }
pool_is pool id committed reserved i c r =
    let with_id : ℕ → PoolView = λ n. record { id = n; committed = pool.committed; reserved = pool.reserved } in
    let with_committed : ℤ → PoolView = λ z. record { id = id; committed = z; reserved = pool.reserved } in
    let with_reserved : ℕ → PoolView = λ n. record { id = id; committed = committed; reserved = n } in
    ap with_id i ∙ ap with_committed c ∙ ap with_reserved r
