-- The texts of IPv4 addresses, beside the numbers that they have between their dots.
use Rattle.std.proofs.Common.{◌≡◌, ℕ, ◌+◌, ◌-◌, ◌*◌, ◌^◌, ◌<◌, true, false, ◌&&◌, ◌==◌, nat_lt, List, [], ◌∷◌}
use Rattle.std.proofs.Common.{◌++◌, length, Some, None, refl, sym, ap, ◌∙◌, rules, arith, append_assoc, append-nil, inl}
use Rattle.std.proofs.Common.{inr}
use Rattle.std.specs.Fmt.{decimal}
use Rattle.std.specs.List.{list_all}
use Rattle.std.specs.Str.{all_ascii_digits, bytes_eq}
use Rattle.std.specs.Char.{is_ascii_digit}
use Rattle.std.specs.Net.Grammar.{IsDotted}
use Rattle.std.specs.Net.Text.{dotted_text, ipv4_text}
use Rattle.std.proofs.lemmas.Bool.{and_parts, and_from, cases_Bool, cond-true, cond-false, lt-ltb, ltb-true, eqb-true}
use Rattle.std.proofs.lemmas.Bool.Decides.{nat_tests}
use Rattle.std.proofs.lemmas.Fmt.{digits_decimal, digits_value-decimal}
use Rattle.std.proofs.lemmas.Slice.Eq.{bytes_eq-Decides}
use Rattle.std.proofs.lemmas.Str.Parse.{IsNumeralModel, numerals_by_fold}
use Rattle.dcc_tariff.specs.PlanTexts.{numbers_after, if_spelled, address_of}

-- the number that digits write after a number
abbrev read : ℕ → List ℕ → ℕ
read n [] = n
read n (c ∷ cs) = read (n * 10 + (c - 48)) cs

model : IsNumeralModel (λ ds. all_ascii_digits ds ≡ true) (read 0)
model = numerals_by_fold _ (search rules) read (search rules)

digit_is_no_dot : (c : ℕ) → is_ascii_digit c ≡ true → (c == 46) ≡ false
digit_is_no_dot c h = grind (arith, nat_tests)

numbers-digits : (n : ℕ) (ds rest : List ℕ) → all_ascii_digits ds ≡ true → numbers_after n (ds ++ rest) ≡ numbers_after (read n ds) rest
numbers-digits n [] rest h = refl
numbers-digits n (c ∷ cs) rest h =
    let (here, more) = and_parts (is_ascii_digit c) (all_ascii_digits cs) h in
    cond-false (c == 46) (n ∷ numbers_after 0 (cs ++ rest)) (numbers_after (n * 10 + (c - 48)) (cs ++ rest)) (digit_is_no_dot c here)
    ∙ numbers-digits (n * 10 + (c - 48)) cs rest more

small : (n : ℕ) → n < 256 → n < 2 ^ 64
small n h = omega arith

numbers-decimal : (n : ℕ) (rest : List ℕ) → n < 256 → numbers_after 0 (decimal n ++ rest) ≡ numbers_after n rest
numbers-decimal n rest h =
    numbers-digits 0 (decimal n) rest (digits_decimal model n (small n h))
    ∙ ap (λ m. numbers_after m rest) (digits_value-decimal model n (small n h))

numbers-dotted : (a b c d : ℕ) → a < 256 → b < 256 → c < 256 → d < 256 → numbers_after 0 (dotted_text a b c d) ≡ a ∷ b ∷ c ∷ d ∷ []
numbers-dotted a b c d ha hb hc hd =
    let last : numbers_after 0 (decimal d) ≡ d ∷ [] = ap (numbers_after 0) (sym (append-nil (decimal d))) ∙ numbers-decimal d [] hd in
    let regrouped : dotted_text a b c d ≡ decimal a ++ (46 ∷ (decimal b ++ (46 ∷ (decimal c ++ (46 ∷ decimal d))))) = simp append_assoc in
    ap (numbers_after 0) regrouped
    ∙ numbers-decimal a (46 ∷ (decimal b ++ (46 ∷ (decimal c ++ (46 ∷ decimal d))))) ha
    ∙ ap (λ ns. a ∷ ns) (numbers-decimal b (46 ∷ (decimal c ++ (46 ∷ decimal d))) hb
    ∙ ap (λ ns. b ∷ ns) (numbers-decimal c (46 ∷ decimal d) hc ∙ ap (λ ns. c ∷ ns) last))

same_octets : (text : List ℕ) → bytes_eq text text ≡ true
same_octets text = (bytes_eq-Decides text text).1 refl

if_spelled-dotted : (a b c d : ℕ) → a < 256 → b < 256 → c < 256 → d < 256
    → if_spelled (dotted_text a b c d) (a ∷ b ∷ c ∷ d ∷ []) ≡ Some (a ∷ b ∷ c ∷ d ∷ [])
if_spelled-dotted a b c d ha hb hc hd =
    let low : list_all (λ n. nat_lt n 256) (a ∷ b ∷ c ∷ d ∷ []) ≡ true =
    and_from (nat_lt a 256) _ (lt-ltb a 256 ha) (and_from (nat_lt b 256) _ (lt-ltb b 256 hb)
    (and_from (nat_lt c 256) _ (lt-ltb c 256 hc) (and_from (nat_lt d 256) true (lt-ltb d 256 hd) refl))) in
    cond-true _ (Some (a ∷ b ∷ c ∷ d ∷ [])) None
    (and_from (list_all (λ n. nat_lt n 256) (a ∷ b ∷ c ∷ d ∷ [])) _ low (same_octets (dotted_text a b c d)))

pub address_of-dotted : (text octets : List ℕ) → IsDotted text octets → address_of text ≡ Some octets
unfolding address_of
address_of-dotted text octets h =
    let (ha, hb, hc, hd) = h.fit in
    ap (λ t. if_spelled t (numbers_after 0 t)) h.spelled
    ∙ ap (if_spelled (dotted_text h.a h.b h.c h.d)) (numbers-dotted h.a h.b h.c h.d ha hb hc hd)
    ∙ if_spelled-dotted h.a h.b h.c h.d ha hb hc hd ∙ ap Some (sym h.value)

below : (n : ℕ) (ns : List ℕ) → list_all (λ m. nat_lt m 256) (n ∷ ns) ≡ true → (n < 256) × (list_all (λ m. nat_lt m 256) ns ≡ true)
below n ns h = let (here, more) = and_parts (nat_lt n 256) (list_all (λ m. nat_lt m 256) ns) h in (ltb-true n 256 here, more)

dotted_from : (text numbers : List ℕ) → length numbers ≡ 4 → list_all (λ n. nat_lt n 256) numbers ≡ true → text ≡ ipv4_text numbers
    → IsDotted text numbers
dotted_from text [] four low same = absurd (omega arith)
dotted_from text (a ∷ []) four low same = absurd (omega arith)
dotted_from text (a ∷ b ∷ []) four low same = absurd (omega arith)
dotted_from text (a ∷ b ∷ c ∷ []) four low same = absurd (omega arith)
dotted_from text (a ∷ b ∷ c ∷ d ∷ []) four low same =
    let (ha, more_a) = below a (b ∷ c ∷ d ∷ []) low in
    let (hb, more_b) = below b (c ∷ d ∷ []) more_a in
    let (hc, more_c) = below c (d ∷ []) more_b in
    let (hd, more_d) = below d [] more_c in
    record { a = a; b = b; c = c; d = d; fit = (ha, hb, hc, hd); value = refl; spelled = same }
dotted_from text (a ∷ b ∷ c ∷ d ∷ e ∷ ns) four low same = absurd (omega arith)

pub address_of-none : (text : List ℕ) → ((octets : List ℕ) → IsDotted text octets → ⊥) → address_of text ≡ None
unfolding address_of
address_of-none text h =
    let numbers = numbers_after 0 text in
    let test = (length numbers == 4 && list_all (λ n. nat_lt n 256) numbers) && bytes_eq text (ipv4_text numbers) in
    elim (cases_Bool test) [
      | inl spelled ↦
          let (four_low, same) =
          and_parts (length numbers == 4 && list_all (λ n. nat_lt n 256) numbers) (bytes_eq text (ipv4_text numbers)) spelled in
          let (four, low) = and_parts (length numbers == 4) (list_all (λ n. nat_lt n 256) numbers) four_low in
          absurd (h numbers (dotted_from text numbers (eqb-true (length numbers) 4 four) low ((bytes_eq-Decides text (ipv4_text numbers)).0 same)))
      | inr not_spelled ↦ cond-false test (Some numbers) None not_spelled
    ]
