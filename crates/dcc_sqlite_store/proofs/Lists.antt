-- What a list has.
use Rattle.std.proofs.Common.{◌≡◌, inl, inr, ℕ, zero, suc, ◌<◌, List, [], ◌∷◌, length, slice_index_or, sym, arith}
use Rattle.std.specs.List.{Contains}
use Rattle.sqlite_rules.specs.Lists.{Has}

at_has : {X : Type 0} (xs : List X) (k : ℕ) (x : X) → k < length xs → slice_index_or xs k x ≡ x → Has xs x
at_has [] k x below is = absurd (omega (arith, below))
at_has (y ∷ ys) zero x below is = inl (sym is)
at_has (y ∷ ys) (suc k) x below is = inr (at_has ys k x (omega (arith, below)) is)

pub to_has : {X : Type 0} (xs : List X) (x : X) → Contains xs x → Has xs x
to_has xs x h = at_has xs h.0 x h.1 h.2

pub from_has : {X : Type 0} (xs : List X) (x : X) → Has xs x → Contains xs x
from_has [] x h = absurd h
from_has (y ∷ ys) x (inl same) = (0, omega arith, sym same)
from_has (y ∷ ys) x (inr later) = let r = from_has ys x later in (suc r.0, omega (arith, r.1), r.2)
