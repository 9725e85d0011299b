-- AVPs that are read have no more octets than they were read from.
use Rattle.std.proofs.Common.{◌≡◌, ℕ, zero, suc, ◌+◌, ◌-◌, ◌≤◌, true, false, List, [], ◌∷◌, length, take, drop, Option, Some, None, Result, Ok, Err, refl, arith, inl, inr}
use Rattle.std.specs.Prelude.{nat_lt, if◌then◌else◌, IfOk}
use Rattle.std.specs.List.{sum_by}
use Rattle.std.specs.Int.{w32, from_be_bytes, next_multiple_of}
use Rattle.std.proofs.lemmas.Bool.{cases_Bool}
use Rattle.std.proofs.lemmas.Bool.Decides.{nat_tests}
use Rattle.std.proofs.lemmas.List.{length-take-le, length-drop}
use Rattle.std.proofs.lemmas.List.Sums.{sum_by-cons}
use Rattle.dcc_avp.specs.Spelling.{AvpView, has_vendor, header_len, avp_len, padded_len}
use Rattle.dcc_avp.specs.Reading.{FaultView, LengthPastEnd, ◌>>=◌, avp_of, avp_within, avp_at, in_front, avps_behind, avps_of}
use Rattle.dcc_request.specs.Layout.{list_or_refusal, message_list}
use Rattle.dcc_request.specs.Sizes.{AreWithin}

with_vendor : (code flags : ℕ) (body : List ℕ) → has_vendor flags ≡ true →
    avp_of code flags body ≡ record { code = code; flags = flags; vendor = Some (from_be_bytes w32 (take 4 body)); value = drop 4 body }
with_vendor code flags body vendor = rw vendor refl

without_vendor : (code flags : ℕ) (body : List ℕ) → has_vendor flags ≡ false →
    avp_of code flags body ≡ record { code = code; flags = flags; vendor = None; value = body }
without_vendor code flags body own = rw own refl

-- so far as the header goes
sized : (most code flags header : ℕ) (vendor : Option ℕ) (value : List ℕ) → header_len flags ≡ header → header + length value ≤ most →
    avp_len (record { code = code; flags = flags; vendor = vendor; value = value }) ≤ most
sized most code flags header vendor value is few = rw is few

vendor_header : (flags : ℕ) → has_vendor flags ≡ true → header_len flags ≡ 12
vendor_header flags vendor = rw vendor refl

own_header : (flags : ℕ) → has_vendor flags ≡ false → header_len flags ≡ 8
own_header flags own = rw own refl

of_len : (code flags len : ℕ) (body : List ℕ) → header_len flags ≤ len → len ≤ 8 + length body →
    avp_len (avp_of code flags (take (len - 8) body)) ≤ 8 + length body
of_len code flags len body counts within =
    elim (cases_Bool (has_vendor flags)) [
      | inl vendor ↦
          let header : 12 ≤ len = rw (vendor_header flags vendor) at counts in
          let size : length (take (len - 8) body) ≡ len - 8 = length-take-le (len - 8) body (omega arith) in
          let rest : length (drop 4 (take (len - 8) body)) ≡ length (take (len - 8) body) - 4 = length-drop 4 (take (len - 8) body) in
          rw (with_vendor code flags (take (len - 8) body) vendor)
          (sized (8 + length body) code flags 12 (Some (from_be_bytes w32 (take 4 (take (len - 8) body)))) (drop 4 (take (len - 8) body)) (vendor_header flags vendor) (omega arith))
      | inr own ↦
          let header : 8 ≤ len = rw (own_header flags own) at counts in
          let size : length (take (len - 8) body) ≡ len - 8 = length-take-le (len - 8) body (omega arith) in
          rw (without_vendor code flags (take (len - 8) body) own)
          (sized (8 + length body) code flags 8 None (take (len - 8) body) (own_header flags own) (omega arith))
    ]

fits_within : (code flags len : ℕ) (body : List ℕ) → header_len flags ≤ len →
    IfOk (if nat_lt (8 + length body) len then Err (LengthPastEnd code flags) else Ok (avp_of code flags (take (len - 8) body))) (λ avp. avp_len avp ≤ 8 + length body)
fits_within code flags len body counts =
    elim (cases_Bool (nat_lt (8 + length body) len)) [
      | inl past ↦ rw past tt
      | inr fits ↦ rw fits (of_len code flags len body counts (grind (arith, nat_tests)))
    ]

len_within : (code flags len : ℕ) (body : List ℕ) → IfOk (avp_within code flags len body) (λ avp. avp_len avp ≤ 8 + length body)
len_within code flags len body =
    elim (cases_Bool (nat_lt len (header_len flags))) [
      | inl short ↦ rw short tt
      | inr counts ↦ rw counts (fits_within code flags len body (grind (arith, nat_tests)))
    ]

longer : {E : Type 0} (read : Result AvpView E) (few most : ℕ) → few ≤ most → IfOk read (λ avp. avp_len avp ≤ few) → IfOk read (λ avp. avp_len avp ≤ most)
longer (Ok avp) few most grows h = omega arith
longer (Err fault) few most grows h = tt

at_within : (octets : List ℕ) → IfOk (avp_at octets) (λ avp. avp_len avp ≤ length octets)
unfolding avp_at
at_within [] = tt
at_within (a ∷ []) = tt
at_within (a ∷ b ∷ []) = tt
at_within (a ∷ b ∷ c ∷ []) = tt
at_within (a ∷ b ∷ c ∷ d ∷ []) = tt
at_within (a ∷ b ∷ c ∷ d ∷ flags ∷ []) = tt
at_within (a ∷ b ∷ c ∷ d ∷ flags ∷ x ∷ []) = tt
at_within (a ∷ b ∷ c ∷ d ∷ flags ∷ x ∷ y ∷ []) = tt
at_within (a ∷ b ∷ c ∷ d ∷ flags ∷ x ∷ y ∷ z ∷ body) =
    longer (avp_within (from_be_bytes w32 (a ∷ b ∷ c ∷ d ∷ [])) flags (from_be_bytes w32 (0 ∷ x ∷ y ∷ z ∷ [])) body)
    (8 + length body) (length (a ∷ b ∷ c ∷ d ∷ flags ∷ x ∷ y ∷ z ∷ body)) (omega arith)
    (len_within (from_be_bytes w32 (a ∷ b ∷ c ∷ d ∷ [])) flags (from_be_bytes w32 (0 ∷ x ∷ y ∷ z ∷ [])) body)

-- ---- all of them, with their padding

abbrev pub AreTogether : ℕ → List AvpView → Type 0
AreTogether octets avps = sum_by padded_len avps ≤ next_multiple_of octets 4

-- what is left behind the padding takes whole words where all does
words : (octets size rest : ℕ) → size ≤ octets → rest ≤ next_multiple_of (octets - next_multiple_of size 4) 4 →
    next_multiple_of size 4 + rest ≤ next_multiple_of octets 4
words octets size rest within behind = omega arith

more_words : (sum few most : ℕ) → few ≤ most → sum ≤ next_multiple_of few 4 → sum ≤ next_multiple_of most 4
more_words sum few most grows h = omega arith

in_front_within : (octets : ℕ) (avp : AvpView) (read : Result (List AvpView) FaultView) → avp_len avp ≤ octets →
    IfOk read (AreTogether (octets - padded_len avp)) → IfOk (in_front avp read) (AreTogether octets)
in_front_within octets avp (Ok others) first rest = rw (sum_by-cons padded_len avp others) (words octets (avp_len avp) (sum_by padded_len others) first rest)
in_front_within octets avp (Err fault) first rest = tt

first_within : (octets : ℕ) (read : Result AvpView FaultView) (next : AvpView → Result (List AvpView) FaultView) → IfOk read (λ avp. avp_len avp ≤ octets) →
    ((avp : AvpView) → IfOk (next avp) (AreTogether (octets - padded_len avp))) → IfOk (read >>= λ first. in_front first (next first)) (AreTogether octets)
first_within octets (Ok avp) next first rest = in_front_within octets avp (next avp) first (rest avp)
first_within octets (Err fault) next first rest = tt

of_more : (few most : ℕ) (read : Result (List AvpView) FaultView) → few ≤ most → IfOk read (AreTogether few) → IfOk read (AreTogether most)
of_more few most (Ok avps) grows h = more_words (sum_by padded_len avps) few most grows h
of_more few most (Err fault) grows h = tt

one_less : (octets passed : ℕ) → octets - (passed - 1) ≤ suc octets - passed
one_less octets passed = omega arith

behind_within : (octets : List ℕ) (passed : ℕ) → IfOk (avps_behind octets passed) (AreTogether (length octets - passed))
unfolding avps_behind
behind_within [] passed = omega arith
behind_within (octet ∷ octets) (suc passed) =
    let same : length (octet ∷ octets) - suc passed ≡ length octets - passed = omega arith in
    rw same (behind_within octets passed)
behind_within (octet ∷ octets) zero =
    let same : length (octet ∷ octets) - 0 ≡ length (octet ∷ octets) = omega arith in
    rw same (first_within (length (octet ∷ octets)) (avp_at (octet ∷ octets)) (λ first. avps_behind octets (padded_len first - 1)) (at_within (octet ∷ octets))
    (λ first. of_more (length octets - (padded_len first - 1)) (suc (length octets) - padded_len first) (avps_behind octets (padded_len first - 1))
    (one_less (length octets) (padded_len first)) (behind_within octets (padded_len first - 1))))

pub together : (octets : List ℕ) → IfOk (avps_of octets) (AreTogether (length octets))
unfolding avps_of
together octets = of_more (length octets - 0) (length octets) (avps_behind octets 0) (omega arith) (behind_within octets 0)

or_refusal : (octets : ℕ) (read : Result (List AvpView) FaultView) → IfOk read (AreTogether octets) → IfOk (list_or_refusal read) (AreTogether octets)
or_refusal octets (Ok avps) h = h
or_refusal octets (Err fault) h = tt

pub read_together : (octets : List ℕ) → IfOk (message_list octets) (AreTogether (length octets))
unfolding message_list
read_together octets = or_refusal (length octets) (avps_of octets) (together octets)

-- ---- and so each

first_of : (n m most : ℕ) → n + m ≤ most → n ≤ most
first_of n m most h = omega arith

others_of : (n m most : ℕ) → n + m ≤ most → m ≤ most
others_of n m most h = omega arith

-- each is less than all
pub each_within : (most : ℕ) (avps : List AvpView) → sum_by padded_len avps ≤ most → AreWithin most avps
each_within most [] h = tt
each_within most (avp ∷ avps) h =
    let all = rw (sum_by-cons padded_len avp avps) at h in
    (first_of (padded_len avp) (sum_by padded_len avps) most all, each_within most avps (others_of (padded_len avp) (sum_by padded_len avps) most all))

rounded : (sum size most : ℕ) → sum ≤ next_multiple_of size 4 → size + 3 ≤ most → sum ≤ most
rounded sum size most few fits = omega arith

each_read : (most size : ℕ) (read : Result (List AvpView) FaultView) → size + 3 ≤ most → IfOk read (AreTogether size) → IfOk read (AreWithin most)
each_read most size (Ok avps) fits h = each_within most avps (rounded (sum_by padded_len avps) size most h fits)
each_read most size (Err fault) fits h = tt

pub list_within : (most : ℕ) (octets : List ℕ) → length octets + 3 ≤ most → IfOk (avps_of octets) (AreWithin most)
list_within most octets few = each_read most (length octets) (avps_of octets) few (together octets)
