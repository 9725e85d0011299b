-- A header that is read is spelled so, and one that is spelled is read.
use Rattle.std.proofs.Common.{◌≡◌, ℕ, zero, suc, ◌+◌, ◌%◌, ◌^◌, ◌<◌, ◌≤◌, true, false, ◌==◌, List, [], ◌∷◌, ◌++◌, length, get_or, drop, Option, Some, None, Ok, refl, sym, ap, subst, ◌∙◌, arith, ltb, inl, inr}
use Rattle.std.proofs.Math.Seq.{drop-cons}
use Rattle.std.specs.Int.{w32, from_be_bytes, to_be_bytes, bytes_high_first, byte_at}
use Rattle.std.specs.Result.{IfOk}
use Rattle.std.proofs.lemmas.Bool.{cases_Bool, eqb-true, eq-eqb, le-ltb}
use Rattle.std.proofs.lemmas.Bool.Decides.{nat_tests}
use Rattle.std.proofs.lemmas.Nat.{be_bytes_4, from_be_bytes-to_be_bytes_4}
use Rattle.dcc_message.specs.declared.length.LengthFault.{LengthFault}
use Rattle.dcc_message.specs.declared.length.TheConstants.{MAX_LENGTH}
use Rattle.dcc_message.specs.HeaderView.{HeaderView}
use Rattle.dcc_message.specs.Streams.{length_field, length_fault}
use Rattle.dcc_message.specs.Headers.{IsHeader, header, header_of, header_at, header_if}

abbrev pub IsOctets : List ℕ → Type 0
IsOctets octets = (i : ℕ) → get_or octets i 0 < 256

-- ---- numbers of three and four octets

tail : List ℕ → List ℕ
tail octets = drop 1 octets

IsOctets-cons : (b : ℕ) (octets : List ℕ) → b < 256 → IsOctets octets → IsOctets (b ∷ octets)
IsOctets-cons b octets lt fits zero = lt
IsOctets-cons b octets lt fits (suc i) = fits i

IsOctets-nil : IsOctets []
IsOctets-nil zero = omega arith
IsOctets-nil (suc i) = omega arith

four_cells : (w x y z : ℕ) → w < 256 → x < 256 → y < 256 → z < 256 → IsOctets (w ∷ x ∷ y ∷ z ∷ [])
four_cells w x y z a b c d = IsOctets-cons w (x ∷ y ∷ z ∷ []) a (IsOctets-cons x (y ∷ z ∷ []) b (IsOctets-cons y (z ∷ []) c (IsOctets-cons z [] d IsOctets-nil)))

four_back : (w x y z : ℕ) → w < 256 → x < 256 → y < 256 → z < 256 → to_be_bytes w32 (from_be_bytes w32 (w ∷ x ∷ y ∷ z ∷ [])) ≡ w ∷ x ∷ y ∷ z ∷ []
four_back w x y z a b c d = be_bytes_4 (w ∷ x ∷ y ∷ z ∷ []) _ refl (four_cells w x y z a b c d) refl

three_back : (x y z : ℕ) → x < 256 → y < 256 → z < 256 → bytes_high_first 3 (from_be_bytes w32 (0 ∷ x ∷ y ∷ z ∷ [])) ≡ x ∷ y ∷ z ∷ []
unfolding tail
three_back x y z b c d = ap tail (four_back 0 x y z (omega arith) b c d)

no_fourth : (n : ℕ) → n < 2 ^ 24 → byte_at 3 n ≡ 0
no_fourth n lt = omega arith

three_again : (n : ℕ) → n < 2 ^ 24 → from_be_bytes w32 (0 ∷ bytes_high_first 3 n) ≡ n
three_again n lt = ap (λ (b : ℕ). from_be_bytes w32 (b ∷ bytes_high_first 3 n)) (sym (no_fourth n lt)) ∙ from_be_bytes-to_be_bytes_4 n (omega arith)

-- ---- the first twenty octets, one by one

cells : ℕ → ℕ → List ℕ → List ℕ
cells zero i octets = []
cells (suc n) i octets = get_or octets i 0 ∷ cells n (i + 1) octets

in_cells : (n i : ℕ) (octets : List ℕ) → i + n ≤ length octets → drop i octets ≡ cells n i octets ++ drop (i + n) octets
unfolding cells
in_cells zero i octets h = ap (λ (k : ℕ). drop k octets) (let e : i ≡ i + 0 = omega arith in e)
in_cells (suc n) i octets h =
    let within : i < length octets = omega arith in
    let step = in_cells n (i + 1) octets (omega arith) in
    let same : (i + 1) + n ≡ i + suc n = omega arith in
    let next : suc i ≡ i + 1 = omega arith in
    drop-cons octets i 0 within ∙ ap (λ (k : ℕ). get_or octets i 0 ∷ drop k octets) next ∙
    ap (λ (b : List ℕ). get_or octets i 0 ∷ b) step ∙ ap (λ (k : ℕ). get_or octets i 0 ∷ (cells n (i + 1) octets ++ drop k octets)) same

made : ℕ → ℕ → ℕ → ℕ → ℕ → ℕ → HeaderView
made long flags code app hop end = record { length = long; flags = flags; code = code; app = app; hop = hop; end_to_end = end }

made_of : (l l' c c' a a' p p' e e' flags : ℕ) → l ≡ l' → c ≡ c' → a ≡ a' → p ≡ p' → e ≡ e' → made l flags c a p e ≡ made l' flags c' a' p' e'
made_of l l' c c' a a' p p' e e' flags q r s t u = cc

join : ℕ → List ℕ → List ℕ → List ℕ → List ℕ → List ℕ → List ℕ
join flags long code app hop end = (1 ∷ long) ++ (flags ∷ code) ++ app ++ hop ++ end

joined : (flags : ℕ) (long long' code code' app app' hop hop' end end' : List ℕ) → long ≡ long' → code ≡ code' → app ≡ app' → hop ≡ hop' → end ≡ end' →
    join flags long code app hop end ≡ join flags long' code' app' hop' end'
joined flags long long' code code' app app' hop hop' end end' a b c d e = cc

spelled_join : (octets : List ℕ) → IsOctets octets → header (header_at octets) ≡
    join (get_or octets 4 0) (get_or octets 1 0 ∷ get_or octets 2 0 ∷ get_or octets 3 0 ∷ []) (get_or octets 5 0 ∷ get_or octets 6 0 ∷ get_or octets 7 0 ∷ [])
    (get_or octets 8 0 ∷ get_or octets 9 0 ∷ get_or octets 10 0 ∷ get_or octets 11 0 ∷ []) (get_or octets 12 0 ∷ get_or octets 13 0 ∷ get_or octets 14 0 ∷ get_or octets 15 0 ∷ [])
    (get_or octets 16 0 ∷ get_or octets 17 0 ∷ get_or octets 18 0 ∷ get_or octets 19 0 ∷ [])
spelled_join octets fits = (unfold header join in let here : header (header_at octets) ≡
    join (get_or octets 4 0) (get_or octets 1 0 ∷ get_or octets 2 0 ∷ get_or octets 3 0 ∷ []) (get_or octets 5 0 ∷ get_or octets 6 0 ∷ get_or octets 7 0 ∷ [])
    (get_or octets 8 0 ∷ get_or octets 9 0 ∷ get_or octets 10 0 ∷ get_or octets 11 0 ∷ []) (get_or octets 12 0 ∷ get_or octets 13 0 ∷ get_or octets 14 0 ∷ get_or octets 15 0 ∷ [])
    (get_or octets 16 0 ∷ get_or octets 17 0 ∷ get_or octets 18 0 ∷ get_or octets 19 0 ∷ []) =
    joined (get_or octets 4 0) _ _ _ _ _ _ _ _ _ _
    (three_back (get_or octets 1 0) (get_or octets 2 0) (get_or octets 3 0) (fits 1) (fits 2) (fits 3))
    (three_back (get_or octets 5 0) (get_or octets 6 0) (get_or octets 7 0) (fits 5) (fits 6) (fits 7))
    (four_back (get_or octets 8 0) (get_or octets 9 0) (get_or octets 10 0) (get_or octets 11 0) (fits 8) (fits 9) (fits 10) (fits 11))
    (four_back (get_or octets 12 0) (get_or octets 13 0) (get_or octets 14 0) (get_or octets 15 0) (fits 12) (fits 13) (fits 14) (fits 15))
    (four_back (get_or octets 16 0) (get_or octets 17 0) (get_or octets 18 0) (get_or octets 19 0) (fits 16) (fits 17) (fits 18) (fits 19)) in here)

-- the first twenty octets are the spelling of what they say
spelled_front : (octets : List ℕ) → IsOctets octets → get_or octets 0 0 ≡ 1 → 20 ≤ length octets → octets ≡ header (header_at octets) ++ drop 20 octets
spelled_front octets fits version long =
    let all = in_cells 20 0 octets long in
    let same : cells 20 0 octets ≡ header (header_at octets) = rw (spelled_join octets fits) (unfold cells join in ap (λ (b : ℕ). b ∷ drop 1 (cells 20 0 octets)) version) in
    all ∙ ap (λ (front : List ℕ). front ++ drop 20 octets) same

-- a length without a fault is that of a message
record IsFine (n : ℕ) : Type 0 where
  least : 20 ≤ n
  most : n ≤ MAX_LENGTH
  whole : n % 4 ≡ 0

fine : (n : ℕ) → length_fault n ≡ None → IsFine n
fine n h = record { least = grind (arith, nat_tests); most = grind (arith, nat_tests); whole = grind (arith, nat_tests) }

fine_again : (n : ℕ) → IsFine n → length_fault n ≡ None
fine_again n h =
    let least = h.least in
    let most = h.most in
    let whole = h.whole in
    grind (arith, nat_tests)

-- what reading found
abbrev pub IsFound : List ℕ → HeaderView → Type 0
IsFound octets h = IsHeader h × (octets ≡ header h ++ drop 20 octets) × (h.length ≡ length octets)

found_fine : (octets : List ℕ) → IsOctets octets → get_or octets 0 0 ≡ 1 → IsFine (length_field octets) → length_field octets ≡ length octets → IsFound octets (header_at octets)
found_fine octets fits version long exact = (
  record {
    flags = fits 4;
    code = omega (arith, fits 5, fits 6, fits 7);
    app = omega (arith, fits 8, fits 9, fits 10, fits 11);
    hop = omega (arith, fits 12, fits 13, fits 14, fits 15);
    end_to_end = omega (arith, fits 16, fits 17, fits 18, fits 19);
    least = long.least;
    most = long.most;
    whole = long.whole;
  },
  spelled_front octets fits version (omega arith),
  exact,
)

found_if : (octets : List ℕ) (fault : Option LengthFault) → IsOctets octets → get_or octets 0 0 ≡ 1 → length_fault (length_field octets) ≡ fault → IfOk (header_if fault octets) (λ h. IsFound octets h)
found_if octets (Some fault) fits version h = tt
found_if octets None fits version h =
    elim (cases_Bool (length_field octets == length octets)) [
      | inl t ↦ rw t (found_fine octets fits version (fine (length_field octets) h) (eqb-true (length_field octets) (length octets) t))
      | inr f ↦ rw f tt
    ]

-- a header that is read stands at the front of the octets, and states their length
pub found_of : (octets : List ℕ) → IsOctets octets → IfOk (header_of octets) (λ h. IsFound octets h)
unfolding header_of
found_of octets fits =
    elim (cases_Bool (ltb (length octets) 4)) [
      | inl t ↦ rw t tt
      | inr f ↦ elim (cases_Bool (get_or octets 0 0 == 1)) [
        | inl v ↦ rw (f, v) (found_if octets (length_fault (length_field octets)) fits (eqb-true (get_or octets 0 0) 1 v) refl)
        | inr v ↦ rw (f, v) tt
      ]
    ]

field_spelled : (h : HeaderView) (rest : List ℕ) → h.length < 2 ^ 24 → length_field (header h ++ rest) ≡ h.length
unfolding header
field_spelled h rest lt = three_again h.length lt

-- a header is read from its spelling
at_spelled : (h : HeaderView) (rest : List ℕ) → IsHeader h → header_at (header h ++ rest) ≡ h
unfolding header made
at_spelled h rest fits =
    let long = three_again h.length (omega (arith, fits.most)) in
    let code = three_again h.code fits.code in
    let app = from_be_bytes-to_be_bytes_4 h.app fits.app in
    let hop = from_be_bytes-to_be_bytes_4 h.hop fits.hop in
    let end = from_be_bytes-to_be_bytes_4 h.end_to_end fits.end_to_end in
    made_of _ _ _ _ _ _ _ _ _ _ h.flags long code app hop end

version_spelled : (h : HeaderView) (rest : List ℕ) → get_or (header h ++ rest) 0 0 ≡ 1
unfolding header
version_spelled h rest = refl

pub only_of : (octets : List ℕ) (h : HeaderView) (rest : List ℕ) → IsHeader h → octets ≡ header h ++ rest → h.length ≡ length octets → header_of octets ≡ Ok h
unfolding header_of
only_of octets h rest fits e exact =
    let all = header h ++ rest in
    let least = fits.least in
    let field : length_field all ≡ h.length = field_spelled h rest (omega (arith, fits.most)) in
    let version = version_spelled h rest in
    let at = at_spelled h rest fits in
    let none : length_fault h.length ≡ None = fine_again h.length (record { least = fits.least; most = fits.most; whole = fits.whole }) in
    let long : length all ≡ h.length = ap length (sym e) ∙ sym exact in
    let enough : ltb (length all) 4 ≡ false = le-ltb (length all) 4 (omega arith) in
    let same : (length_field all == length all) ≡ true = eq-eqb (length_field all) (length all) (field ∙ sym long) in
    let P : List ℕ → Type 0 = λ b. header_of b ≡ Ok h in
    subst P (sym e) (rw (enough, version, field, none) (rw same (ap Ok at)))
