-- Octets below 128 are ASCII text.
use Rattle.std.proofs.Common.{◌≡◌, ℕ, zero, suc, ◌<◌, nat_lt, true, List, [], ◌∷◌, slice_index, arith, lit<, refl, None, Err}
use Rattle.std.specs.List.{list_all}
use Rattle.std.specs.Str.{IsUtf8}
use Rattle.std.proofs.lemmas.Str.{IsUtf8-from_ascii}
use Rattle.std.proofs.lemmas.Grind.{common_steps}
use Rattle.serde_json.specs.Read.{read}
use Rattle.dcc_port.specs.Calls.{ask_of, folder_of}
use Rattle.dcc_port.specs.declared.call.BodySlip.TheVariants.{NoJson}

below : (bs : List ℕ) (i : ℕ) → list_all (λ octet. nat_lt octet 128) bs ≡ true → slice_index bs i < 128
below [] i h = lit< tt
below (b ∷ bs) zero h = grind (arith, common_steps)
below (b ∷ bs) (suc i) h =
    let rest : list_all (λ octet. nat_lt octet 128) bs ≡ true = grind (arith, common_steps) in
    below bs i rest

pub is_text : (bs : List ℕ) → list_all (λ octet. nat_lt octet 128) bs ≡ true → IsUtf8 bs
is_text bs h = IsUtf8-from_ascii bs (λ i. below bs i h)

-- a body in ASCII that is no JSON has no ticket and no amount
pub no_ask : (body : List ℕ) → true ≡ list_all (λ octet. nat_lt octet 128) body → read body ≡ None → Err NoJson ≡ ask_of body
unfolding ask_of
no_ask body h n = rw (← h, n) refl

-- nor has it a folder
pub no_folder : (body : List ℕ) → true ≡ list_all (λ octet. nat_lt octet 128) body → read body ≡ None → None ≡ folder_of body
unfolding folder_of
no_folder body h n = rw (← h, n) refl
