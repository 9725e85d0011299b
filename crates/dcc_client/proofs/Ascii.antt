-- Octets below 128 are ASCII text.
use Rattle.std.proofs.Common.{◌≡◌, ℕ, zero, suc, ◌<◌, nat_lt, true, List, [], ◌∷◌, slice_index, arith, lit<, refl, None}
use Rattle.std.specs.List.{list_all}
use Rattle.std.specs.Str.{IsUtf8}
use Rattle.std.proofs.lemmas.Str.{IsUtf8-from_ascii}
use Rattle.std.proofs.lemmas.Grind.{common_steps}
use Rattle.serde_json.specs.Data.{Data}
use Rattle.serde_json.specs.Read.{read}
use Rattle.dcc_client.specs.Findings.{data_of}

below : (bs : List ℕ) (i : ℕ) → list_all (λ octet. nat_lt octet 128) bs ≡ true → slice_index bs i < 128
below [] i h = lit< tt
below (b ∷ bs) zero h = grind (arith, common_steps)
below (b ∷ bs) (suc i) h =
    let rest : list_all (λ octet. nat_lt octet 128) bs ≡ true = grind (arith, common_steps) in
    below bs i rest

pub is_text : (bs : List ℕ) → list_all (λ octet. nat_lt octet 128) bs ≡ true → IsUtf8 bs
is_text bs h = IsUtf8-from_ascii bs (λ i. below bs i h)

-- a body in ASCII that is no JSON has no value
pub no_value : (body : List ℕ) → true ≡ list_all (λ octet. nat_lt octet 128) body → read body ≡ None → None ≡ data_of body
unfolding data_of
no_value body h n = rw (← h, n) refl
