-- What holds on success, and on an error.
use Rattle.std.proofs.Common.{Result, Ok, Err, OnOk, OnErr}

pub on_ok : {T E P Q : Type 0} (r : Result T E) → (P → Q) → OnOk r P → OnOk r Q
on_ok (Ok x) f h = f h
on_ok (Err e) f h = tt

pub on_err : {T E Q : Type 0} (r : Result T E) → Q → OnErr r Q
on_err (Ok x) q = tt
on_err (Err e) q = q
