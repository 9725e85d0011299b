-- Shards begin with the acts at opening, when they are put under locks and when they are out of them.
use Rattle.std.proofs.Common.{◌≡◌, ℕ, ◌<◌, ◌≤◌, zero, suc, List, [], ◌∷◌, length, get_or, refl, sym, ap, subst, ◌∙◌, inl, inr, arith}
use Rattle.std.proofs.lemmas.Option.{slice_get-get_or, slice_get_cases}
use Rattle.std.specs.Prelude.{Option, Some, slice_get}
use Rattle.dcc_act.specs.declared.act.Act.{Act}
use Rattle.dcc_act.specs.declared.sub.Sub.{Sub}
use Rattle.dcc_store.specs.Books.{Held}
use Rattle.dcc_shard.specs.Routes.{shard_of}
use Rattle.dcc_shard.specs.Shards.{held}
use Rattle.dcc_shard.specs.Stored.{StoredView}
use Rattle.dcc_running.specs.Books.{BeginWith, HaveOwnPlaces, book, held_by}
use Rattle.dcc_running.specs.Told.{ToldView}
use Rattle.dcc_running.specs.inner.Told.{none_told}
use Rattle.dcc_receipts.specs.declared.receipt.Receipt.{Receipt}
use Rattle.dcc_running.specs.declared.lock.Place.{Place}
use Rattle.dcc_running.specs.declared.lock.Side.{Side}
use Rattle.dcc_running.specs.inner.Touches.{Touched}
use Rattle.dcc_running.specs.inner.Wards.{AreBegun, AreBeside, AreSettled, AreTold, IsBegun, IsBeside}
use Rattle.dcc_running.proofs.Growth.{begin_alike}
use Rattle.dcc_running.proofs.Walks.{as_long}

-- a shard holds exactly the acts at opening of each subscriber of this place
IsOpened : {R : Type 0} → Held → Place → StoredView R → Type 0
IsOpened opening place part = (sub : Sub) → shard_of sub place.count ≡ place.index → held part.shard sub ≡ opening sub

row_of : ℕ → ℕ → Place
row_of count index = record { index = index; count = count }

-- at opening each does
opened : {R : Type 0} (opening : Held) (parts : List (StoredView R)) → ((sub : Sub) → opening sub ≡ book parts sub)
    → (i : ℕ) (none : StoredView R) → i < length parts → IsOpened opening (row_of (length parts) i) (get_or parts i none)
unfolding IsOpened row_of
opened {R} opening parts are i none within sub here =
    let there : slice_get parts i ≡ Some (get_or parts i none) = slice_get-get_or parts i none within in
    let b : book parts sub ≡ held (get_or parts i none).shard sub =
    ap (λ (k : ℕ). held_by (slice_get parts k) sub) here ∙ ap (λ (o : Option (StoredView R)). held_by o sub) there in
    sym b ∙ sym (are sub)

begun_of : {R : Type 0} (opening : Held) (place : Place) (part : StoredView R) → IsOpened opening place part → IsBegun opening place part
unfolding IsOpened
begun_of opening place part is sub here = begin_alike (opening sub) (held part.shard sub) (is sub here)

settled_of : {R : Type 0} (opening : Held) (place : Place) (part : StoredView R) (touched : Touched) (told : List Receipt) → IsOpened opening place part
    → AreSettled opening place part touched told
unfolding IsOpened
settled_of opening place part touched told is sub here untouched at low high =
    let as_many : length (held part.shard sub) ≡ length (opening sub) = ap (λ (l : List Act). length l) (is sub here) in
    absurd (omega (arith, low, high, as_many))

-- the acts of each subscriber are those of the shard at the place that keeps it
pub begun : {R : Type 0} (opening : Held) (parts : List (StoredView R)) → 1 ≤ length parts → AreBegun opening (length parts) parts
    → (sub : Sub) → BeginWith (opening sub) (book parts sub)
begun {R} opening parts some are sub =
    let r = shard_of sub (length parts) in
    elim (slice_get_cases parts r).1 [
      | inl found ↦
          let part = found.0 in
          let one : BeginWith (opening sub) (held (get_or parts r part).shard sub) = are r part found.1 sub refl in
          let here : held (get_or parts r part).shard sub ≡ book parts sub =
          ap (λ (p : StoredView R). held p.shard sub) found.3 ∙ sym (ap (λ (o : Option (StoredView R)). held_by o sub) found.2) in
          subst (λ (l : List Act). BeginWith (opening sub) l) here one
      | inr past ↦ absurd (omega (arith, some, past.0))
    ]

-- shards that are begun at the places of a row, and without audited receipts, are beside sides of these places
zipped : {R : Type 0} (opening : Held) (row : ℕ → Place) (sides : List Side) (parts : List (StoredView R)) → length sides ≡ length parts
    → ((i : ℕ) (none : Side) → i < length sides → (get_or sides i none).place ≡ row i) → ((i : ℕ) (none : Side) → i < length sides → (get_or sides i none).told ≡ none_told)
    → ((i : ℕ) (none : StoredView R) → i < length parts → IsOpened opening (row i) (get_or parts i none)) → AreBeside opening sides parts
zipped opening row [] [] as_many own untold are = tt
zipped opening row [] (part ∷ parts) as_many own untold are = absurd (omega (arith, as_many))
zipped opening row (side ∷ sides) [] as_many own untold are = absurd (omega (arith, as_many))
zipped {R} opening row (side ∷ sides) (part ∷ parts) as_many own untold are = (
  (
    begun_of opening side.place part (subst (λ (p : Place). IsOpened opening p part) (sym (own zero side (omega arith))) (are zero part (omega arith))),
    subst (λ (told : ToldView). AreTold opening part told.receipts) (sym (untold zero side (omega arith))) refl,
    settled_of opening side.place part side.touches side.told.receipts
        (subst (λ (p : Place). IsOpened opening p part) (sym (own zero side (omega arith))) (are zero part (omega arith))),
  ),
  zipped opening (λ i. row (suc i)) sides parts (omega (arith, as_many)) (λ i none within. own (suc i) none (omega (arith, within)))
      (λ i none within. untold (suc i) none (omega (arith, within))) (λ i none within. are (suc i) none (omega (arith, within))),
)

-- and back
unzipped : {R : Type 0} (opening : Held) (row : ℕ → Place) (sides : List Side) (parts : List (StoredView R)) → AreBeside opening sides parts
    → ((i : ℕ) (none : Side) → i < length sides → (get_or sides i none).place ≡ row i)
    → (i : ℕ) (none : StoredView R) → i < length parts → IsBegun opening (row i) (get_or parts i none)
unzipped opening row [] [] are own i none within = absurd (omega (arith, within))
unzipped opening row [] (part ∷ parts) are own i none within = absurd are
unzipped opening row (side ∷ sides) [] are own i none within = absurd are
unzipped {R} opening row (side ∷ sides) (part ∷ parts) are own zero none within =
    subst (λ (p : Place). IsBegun opening p part) (own zero side (omega arith)) are.0.0
unzipped {R} opening row (side ∷ sides) (part ∷ parts) are own (suc i) none within =
    unzipped opening (λ j. row (suc j)) sides parts are.1 (λ j other below. own (suc j) other (omega (arith, below))) i none (omega (arith, within))

-- shards that hold exactly the acts at opening are begun at their own places
pub opened_at : {R : Type 0} (opening : Held) (sides : List Side) (parts : List (StoredView R)) → length sides ≡ length parts → HaveOwnPlaces sides
    → ((i : ℕ) (none : Side) → i < length sides → (get_or sides i none).told ≡ none_told) → ((sub : Sub) → opening sub ≡ book parts sub) → AreBeside opening sides parts
unfolding row_of
opened_at {R} opening sides parts as_many own untold are =
    zipped opening (row_of (length parts)) sides parts as_many
    (λ i none within. subst (λ (n : ℕ). (get_or sides i none).place ≡ row_of n i) as_many (own i none within)) untold (opened opening parts are)

-- shards that came out of their own locks: the acts of each subscriber begin with its acts at opening
pub begun_at : {R : Type 0} (opening : Held) (sides : List Side) (parts : List (StoredView R)) → 1 ≤ length parts → AreBeside opening sides parts → HaveOwnPlaces sides
    → (sub : Sub) → BeginWith (opening sub) (book parts sub)
unfolding row_of
begun_at {R} opening sides parts some are own =
    begun opening parts some (unzipped opening (row_of (length parts)) sides parts are
    (λ i none within. subst (λ (n : ℕ). (get_or sides i none).place ≡ row_of n i) (as_long (IsBeside opening) sides parts are) (own i none within)))
