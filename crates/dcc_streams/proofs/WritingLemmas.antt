-- What a writer has after one more write.
use Rattle.std.proofs.Common.{◌≡◌, ℕ, ◌+◌, ◌-◌, ◌≤◌, List, ◌++◌, length, take, drop, Option, Some, None, sym, ap, subst, ◌∙◌, arith, length-take}
use lib.Seq.{take-add, take-take}
use Rattle.std.specs.Io.KnownBytes.{Appends, Keeps}
use Rattle.std.proofs.KnownBytes.{Appends-trans}

-- it took n octets more
pub more : (old mid new : Option (List ℕ)) (text : List ℕ) (done n written : ℕ) → written ≡ done + n → done ≤ length text
    → n ≤ length (take (length text - done) (drop done text)) → Appends old mid (take done text)
    → Appends mid new (take n (take (length text - done) (drop done text)))
    → (written ≤ length text) × Appends old new (take written text)
more old mid new text done n written is within fits before now =
    let most = length-take (length text - done) (drop done text) in
    let joined : take done text ++ take n (take (length text - done) (drop done text)) ≡ take (done + n) text =
    ap (λ l. take done text ++ l) (take-take n (length text - done) (drop done text) (omega arith)) ∙ sym (take-add done n text) in
    (omega arith, subst (λ k. Appends old new (take k text)) (sym is) (subst (Appends old new) joined (Appends-trans old mid new _ _ before now)))

-- it took nothing
pub kept : (old mid new : Option (List ℕ)) (text : List ℕ) → Appends old mid text → Keeps mid new → Appends old new text
kept None mid new text before now = tt
kept (Some x) None new text before now = absurd before
kept (Some x) (Some y) None text before now = absurd now
kept (Some x) (Some y) (Some z) text before now = now ∙ before
