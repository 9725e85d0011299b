-- The first octets of two texts in turn.
use Rattle.std.proofs.Common.{ℕ, ◌+◌, ◌≤◌, List, ◌++◌, length, take, Option, Result, Ok, Err, IfErr, sym, subst}
use Rattle.std.specs.Io.KnownBytes.{Appends}
use Rattle.std.proofs.KnownBytes.{Appends-trans}
use Rattle.std.proofs.lemmas.List.{take-append-le}
use Rattle.std.proofs.Math.Seq.{take-append-add}
use Rattle.dcc_operator.specs.Texts.{IsBegun}

pub begun_first : (old new : Option (List ℕ)) (word rest : List ℕ) (n : ℕ) → n ≤ length word → Appends old new (take n word) → IsBegun (word ++ rest) old new
begun_first old new word rest n within written = (n, subst (Appends old new) (sym (take-append-le n word rest within)) written)

pub begun_behind : (old mid new : Option (List ℕ)) (word rest : List ℕ) (n : ℕ) → Appends old mid word → Appends mid new (take n rest) → IsBegun (word ++ rest) old new
begun_behind old mid new word rest n whole written =
    (length word + n, subst (Appends old new) (sym (take-append-add word rest n)) (Appends-trans old mid new word (take n rest) whole written))

pub in_either : {A E P : Type 0} (r : Result A E) → P → IfErr r (λ error. P)
in_either (Ok x) given = tt
in_either (Err error) given = given

pub weaker : {A E : Type 0} {P Q : E → Type 0} (r : Result A E) → ((error : E) → P error → Q error) → IfErr r P → IfErr r Q
weaker (Ok x) turn given = tt
weaker (Err error) turn given = turn error given
