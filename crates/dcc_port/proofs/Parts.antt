-- Texts that grow part by part.
use Rattle.std.proofs.Common.{◌≡◌, ℕ, List, ◌++◌, ◌∙◌, ap, append_assoc}

-- three parts more
pub three_more : (t0 t1 t2 t3 b c d : List ℕ) → t1 ≡ t0 ++ b → t2 ≡ t1 ++ c → t3 ≡ t2 ++ d → t3 ≡ t0 ++ (b ++ (c ++ d))
three_more t0 t1 t2 t3 b c d e1 e2 e3 =
    e3 ∙ ap (λ t. t ++ d) (e2 ∙ ap (λ t. t ++ c) e1 ∙ append_assoc t0 b c) ∙ append_assoc t0 (b ++ c) d ∙ ap (λ t. t0 ++ t) (append_assoc b c d)
