-- Locks that know where they stand, and one more.
use Rattle.std.proofs.Common.{◌≡◌, ℕ, List, [], ◌∷◌, ◌++◌, length, length-append, ap₂, subst, sym, ◌∙◌, inl, inr, arith}
use Rattle.std.proofs.lemmas.List.{get_or_append_left, get_or_push}
use Rattle.dcc_running.specs.declared.lock.Lock.{Lock}
use Rattle.dcc_running.specs.declared.lock.Place.{Place}
use Rattle.dcc_running.specs.inner.Locks.{AreOf}
use Rattle.dcc_running.proofs.Walks.{below_or_last}

place_of : ℕ → ℕ → Place
place_of index count = record { index = index; count = count }

-- a lock behind others, whose place is the next
pub one_placed : {R J : Type 0} (count index all : ℕ) (locks : List (Lock R J)) (lock : Lock R J) → AreOf count locks → index ≡ length locks → all ≡ count
    → lock.place ≡ record { index = index; count = all } → AreOf count (locks ++ lock ∷ [])
unfolding place_of
one_placed {R} {J} count index all locks lock are next so_many place i none within =
    elim (below_or_last i (length locks) (omega (arith, within, length-append locks (lock ∷ [])))) [
      | inl low ↦ rw (get_or_append_left locks (lock ∷ []) none i low) (are i none low)
      | inr last ↦ rw (get_or_push locks lock none i last) (place ∙ ap₂ place_of (next ∙ last) so_many)
    ]

pub so_many : {R J : Type 0} (m n : ℕ) (locks : List (Lock R J)) → m ≡ n → AreOf n locks → AreOf m locks
so_many {R} {J} m n locks same are = subst (λ (k : ℕ). AreOf k locks) (sym same) are
