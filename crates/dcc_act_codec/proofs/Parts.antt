-- Parts of a record: what is read from the front of octets is spelled so, and what is spelled so is read, whatever follows.
use Rattle.std.proofs.Common.{◌≡◌, ℕ, zero, suc, ◌+◌, ◌^◌, ◌<◌, ◌≤◌, Bool, true, false, cond, ltb, eqb, List, [], ◌∷◌, ◌++◌, length, get_or, take, drop, Option, Some, None, refl, sym, ap, subst, ◌∙◌, append_assoc, arith, inl, inr, ◌⊎◌}
use Rattle.std.specs.Prelude.{IfSome}
use Rattle.std.specs.Int.{Width, w16, w32, w64, byte_len, from_be_bytes, to_be_bytes}
use Rattle.std.specs.List.{flat_map, AllByRecursion}
use Rattle.std.proofs.lemmas.Bool.{cases_lt, ltb-false, le-ltb, eqb-true, eq-eqb}
use Rattle.std.proofs.lemmas.List.{take_at, drop_at, take-append-drop, length-append, length-take, get_or-drop, get_or-take, get_or_past}
use Rattle.std.proofs.lemmas.List.Concat.{flat_map-cons}
use Rattle.std.proofs.lemmas.Nat.{be_bytes_2, be_bytes_4, be_bytes_8, from_be_bytes-to_be_bytes_2, from_be_bytes-to_be_bytes_4, from_be_bytes-to_be_bytes_8}
use Rattle.dcc_act_codec.specs.Records.{optional}
use Rattle.dcc_act_codec.specs.inner.Readers.{◌>>=◌, Reader, octet_in, front_in, number_in, both, checked, fixed_in, optional_in, many_in, counted_in}

abbrev pub IsOctets : List ℕ → Type 0
IsOctets octets = (i : ℕ) → get_or octets i 0 < 256

IsOctets-drop : (n : ℕ) (octets : List ℕ) → IsOctets octets → IsOctets (drop n octets)
IsOctets-drop n octets fits i = rw get_or-drop (fits (n + i))

pub IsOctets-take : (n : ℕ) (octets : List ℕ) → IsOctets octets → IsOctets (take n octets)
IsOctets-take n octets fits i =
    elim (cases_lt i n) [
      | inl lt ↦ rw (get_or-take n octets i 0 lt) (fits i)
      | inr le ↦ rw (get_or_past (take n octets) i 0 (omega (arith, length-take n octets))) (omega arith)
    ]

IsOctets-rest : (octet : ℕ) (octets : List ℕ) → IsOctets (octet ∷ octets) → IsOctets octets
IsOctets-rest octet octets fits i = fits (suc i)

-- the value of a step that gave one
pub bind_some : {A B : Type 0} (o : Option A) (f : A → Option B) (y : B) → (o >>= f) ≡ Some y → (x : A) × (o ≡ Some x) × (f x ≡ Some y)
bind_some (Some x) f y e = (x, refl, e)
bind_some None f y e = absurd cc

abbrev some : {A : Type 0} → A → Option A
some x = Some x

pub some_is : {A : Type 0} (x y : A) → some x ≡ some y → x ≡ y
some_is x y e = cc

-- a test that let a value pass
pub passed : {A : Type 0} (b : Bool) (x y : A) → cond b (Some x) None ≡ some y → (b ≡ true) × (x ≡ y)
passed true x y e = (refl, cc)
passed false x y e = absurd cc

-- or one that stopped
not_stopped : {A : Type 0} (b : Bool) (x y : A) → cond b None (Some x) ≡ some y → (b ≡ false) × (x ≡ y)
not_stopped true x y e = absurd cc
not_stopped false x y e = (refl, cc)

-- what was taken from the front
pub record Takes (octets text rest : List ℕ) : Type 0 where
  pub parts : octets ≡ text ++ rest
  pub rest_fits : IsOctets rest

pub Takes-then : (a x b y c : List ℕ) → Takes a x b → Takes b y c → Takes a (x ++ y) c
Takes-then a x b y c p q = record { parts = p.parts ∙ ap (λ (t : List ℕ). x ++ t) q.parts ∙ sym (append_assoc x y c); rest_fits = q.rest_fits }

-- a part is read just where it is spelled
pub record Reads {A : Type 0} (of : A → List ℕ) (Is : A → Type 0) (read : Reader A) : Type 0 where
  pub takes : (octets : List ℕ) (x : A × List ℕ) → IsOctets octets → read octets ≡ Some x → Takes octets (of x.0) x.1 × Is x.0
  pub again : (value : A) (rest : List ℕ) → Is value → read (of value ++ rest) ≡ Some (value, rest)

-- ---- one octet, and so many

abbrev pub one : ℕ → List ℕ
one octet = octet ∷ []

octet_takes : (octets : List ℕ) (x : ℕ × List ℕ) → IsOctets octets → octet_in octets ≡ Some x → Takes octets (one x.0) x.1 × (x.0 < 256)
unfolding octet_in
octet_takes [] x fits e = absurd cc
octet_takes (octet ∷ octets) x fits e =
    subst (λ (y : ℕ × List ℕ). Takes (octet ∷ octets) (one y.0) y.1 × (y.0 < 256)) (some_is (octet, octets) x e)
    (record { parts = refl; rest_fits = IsOctets-rest octet octets fits }, fits 0)

octet_again : (octet : ℕ) (rest : List ℕ) → octet < 256 → octet_in (one octet ++ rest) ≡ Some (octet, rest)
unfolding octet_in
octet_again octet rest lt = refl

pub octet_reads : Reads one (λ octet. octet < 256) octet_in
octet_reads = record { takes = octet_takes; again = octet_again }

pub front_takes : (count : ℕ) (octets : List ℕ) (x : List ℕ × List ℕ) → IsOctets octets → front_in count octets ≡ Some x
    → Takes octets x.0 x.1 × (length x.0 ≡ count) × IsOctets x.0
unfolding front_in
front_takes count octets x fits e =
    let g = not_stopped (ltb (length octets) count) (take count octets, drop count octets) x e in
    let long : count ≤ length octets = ltb-false _ _ g.0 in
    subst (λ (y : List ℕ × List ℕ). Takes octets y.0 y.1 × (length y.0 ≡ count) × IsOctets y.0) g.1
    (record { parts = sym (take-append-drop count octets); rest_fits = IsOctets-drop count octets fits }, omega (arith, length-take count octets), IsOctets-take count octets fits)

pub front_again : (count : ℕ) (text rest : List ℕ) → length text ≡ count → front_in count (text ++ rest) ≡ Some (text, rest)
unfolding front_in
front_again count text rest len =
    let long : ltb (length (text ++ rest)) count ≡ false = le-ltb _ _ (omega (arith, length-append text rest)) in
    rw (long, take_at text rest count len, drop_at text rest count len) refl

-- ---- numbers

pub record IsWide (w : Width) (limit : ℕ) : Type 0 where
  pub len : (n : ℕ) → length (to_be_bytes w n) ≡ byte_len w
  pub back : (octets : List ℕ) → length octets ≡ byte_len w → IsOctets octets → to_be_bytes w (from_be_bytes w octets) ≡ octets
  pub again : (n : ℕ) → n < limit → from_be_bytes w (to_be_bytes w n) ≡ n
  pub below : (octets : List ℕ) → IsOctets octets → from_be_bytes w octets < limit

pub wide16 : IsWide w16 (2 ^ 16)
wide16 = record {
  len = λ n. refl;
  back = λ octets len fits. be_bytes_2 octets _ len fits refl;
  again = λ n lt. from_be_bytes-to_be_bytes_2 n lt;
  below = λ octets fits. omega (arith, fits 0, fits 1);
}

pub wide32 : IsWide w32 (2 ^ 32)
wide32 = record {
  len = λ n. refl;
  back = λ octets len fits. be_bytes_4 octets _ len fits refl;
  again = λ n lt. from_be_bytes-to_be_bytes_4 n lt;
  below = λ octets fits. omega (arith, fits 0, fits 1, fits 2, fits 3);
}

pub wide64 : IsWide w64 (2 ^ 64)
wide64 = record {
  len = λ n. refl;
  back = λ octets len fits. be_bytes_8 octets _ len fits refl;
  again = λ n lt. from_be_bytes-to_be_bytes_8 n lt;
  below = λ octets fits. omega (arith, fits 0, fits 1, fits 2, fits 3, fits 4, fits 5, fits 6, fits 7);
}

number_takes : (w : Width) (limit : ℕ) → IsWide w limit → (octets : List ℕ) (x : ℕ × List ℕ) → IsOctets octets → number_in w octets ≡ Some x
    → Takes octets (to_be_bytes w x.0) x.1 × (x.0 < limit)
unfolding number_in
number_takes w limit wide octets x fits e =
    let a = bind_some (front_in (byte_len w) octets) (λ front. Some (from_be_bytes w front.0, front.1)) x e in
    let t = front_takes (byte_len w) octets a.0 fits a.1 in
    let back : to_be_bytes w (from_be_bytes w a.0.0) ≡ a.0.0 = wide.back a.0.0 t.1 t.2 in
    let made : Takes octets (to_be_bytes w (from_be_bytes w a.0.0)) a.0.1 = subst (λ (text : List ℕ). Takes octets text a.0.1) (sym back) t.0 in
    subst (λ (y : ℕ × List ℕ). Takes octets (to_be_bytes w y.0) y.1 × (y.0 < limit)) (some_is (from_be_bytes w a.0.0, a.0.1) x a.2) (made, wide.below a.0.0 t.2)

number_again : (w : Width) (limit : ℕ) → IsWide w limit → (n : ℕ) (rest : List ℕ) → n < limit → number_in w (to_be_bytes w n ++ rest) ≡ Some (n, rest)
unfolding number_in
number_again w limit wide n rest lt = rw (front_again (byte_len w) (to_be_bytes w n) rest (wide.len n), wide.again n lt) refl

pub number_reads : (w : Width) (limit : ℕ) → IsWide w limit → Reads (to_be_bytes w) (λ n. n < limit) (number_in w)
number_reads w limit wide = record { takes = number_takes w limit wide; again = number_again w limit wide }

-- ---- parts of parts

pub both_reads : {A B : Type 0} (of : A → List ℕ) (Is : A → Type 0) (read : Reader A) (of' : B → List ℕ) (Is' : B → Type 0) (read' : Reader B)
    → Reads of Is read → Reads of' Is' read'
    → Reads {A = A × B} (λ p. of p.0 ++ of' p.1) (λ p. Is p.0 × Is' p.1) (both read read')
both_reads {A} {B} of Is read of' Is' read' r s = record {
  takes = λ octets x fits e.
      let a = bind_some (read octets) (λ a. read' a.1 >>= λ b. Some ((a.0, b.0), b.1)) x e in
      let b = bind_some (read' a.0.1) (λ b. Some ((a.0.0, b.0), b.1)) x a.2 in
      let t = r.takes octets a.0 fits a.1 in
      let u = s.takes a.0.1 b.0 t.0.rest_fits b.1 in
      let made : (A × B) × List ℕ = ((a.0.0, b.0.0), b.0.1) in
      subst (λ (y : (A × B) × List ℕ). Takes octets (of y.0.0 ++ of' y.0.1) y.1 × (Is y.0.0 × Is' y.0.1)) (some_is made x b.2)
      (Takes-then octets (of a.0.0) a.0.1 (of' b.0.0) b.0.1 t.0 u.0, (t.1, u.1));
  again = λ value rest is.
      rw (append_assoc (of value.0) (of' value.1) rest, r.again value.0 (of' value.1 ++ rest) is.0, s.again value.1 rest is.1) refl;
}

-- what a part makes, where it makes just what is spelled so
pub record Makes {A B : Type 0} (of : A → List ℕ) (Is : A → Type 0) (of' : B → List ℕ) (Is' : B → Type 0) (make : A → Option B) : Type 0 where
  pub made : (part : A) (value : B) → Is part → make part ≡ Some value → (of part ≡ of' value) × Is' value
  pub from : (value : B) → Is' value → (part : A) × Is part × (make part ≡ Some value) × (of part ≡ of' value)

pub checked_reads : {A B : Type 0} (of : A → List ℕ) (Is : A → Type 0) (of' : B → List ℕ) (Is' : B → Type 0) (make : A → Option B) (read : Reader A)
    → Makes of Is of' Is' make → Reads of Is read → Reads of' Is' (checked make read)
checked_reads {A} {B} of Is of' Is' make read m r = record {
  takes = λ octets x fits e.
      let a = bind_some (read octets) (λ a. make a.0 >>= λ b. Some (b, a.1)) x e in
      let b = bind_some (make a.0.0) (λ b. Some (b, a.0.1)) x a.2 in
      let t = r.takes octets a.0 fits a.1 in
      let v = m.made a.0.0 b.0 t.1 b.1 in
      let whole : Takes octets (of' b.0) a.0.1 = subst (λ (text : List ℕ). Takes octets text a.0.1) v.0 t.0 in
      subst (λ (y : B × List ℕ). Takes octets (of' y.0) y.1 × Is' y.0) (some_is (b.0, a.0.1) x b.2) (whole, v.1);
  again = λ value rest is.
      let f = m.from value is in
      rw (← f.3, r.again f.0 rest f.1, f.2) refl;
}

-- ---- this octet

fixed_makes : (expected : ℕ) → expected < 256 → Makes one (λ octet. octet < 256) one (λ octet. octet ≡ expected) (λ octet. cond (eqb octet expected) (Some octet) None)
fixed_makes expected lt = record {
  made = λ part value is e.
      let p = passed (eqb part expected) part value e in
      (ap one p.1, sym p.1 ∙ eqb-true part expected p.0);
  from = λ value is. (value, rw is lt, rw (eq-eqb value expected is) refl, refl);
}

pub fixed_reads : (expected : ℕ) → expected < 256 → Reads one (λ octet. octet ≡ expected) (fixed_in expected)
unfolding fixed_in
fixed_reads expected lt = checked_reads one (λ octet. octet < 256) one (λ octet. octet ≡ expected) _ octet_in (fixed_makes expected lt) octet_reads

-- ---- what may be absent

none_is_not : {A : Type 0} (x : A) → None ≡ some x → ⊥
none_is_not x e = cc

-- one of two, by a test
pub chosen : {A : Type 0} (b : Bool) (x y z : A) → cond b x y ≡ z → ((b ≡ true) × (x ≡ z)) ⊎ ((b ≡ false) × (y ≡ z))
chosen true x y z e = inl (refl, e)
chosen false x y z e = inr (refl, e)

optional_there : {A : Type 0} (of : A → List ℕ) (Is : A → Type 0) (part : Reader A) → Reads of Is part
    → (octet : ℕ) (octets rest : List ℕ) (x : Option A × List ℕ) → octet ≡ 1 → Takes octets (one octet) rest
    → checked (λ value. Some (Some value)) part rest ≡ Some x → Takes octets (optional of x.0) x.1 × IfSome x.0 Is
optional_there {A} of Is part r octet octets rest x is taken e =
    let a = bind_some (part rest) (λ a. Some (Some a.0, a.1)) x e in
    let t = r.takes rest a.0 taken.rest_fits a.1 in
    let flag : Takes octets (one 1) rest = subst (λ (n : ℕ). Takes octets (one n) rest) is taken in
    subst (λ (y : Option A × List ℕ). Takes octets (optional of y.0) y.1 × IfSome y.0 Is) (some_is (Some a.0.0, a.0.1) x a.2)
    (Takes-then octets (one 1) rest (of a.0.0) a.0.1 flag t.0, t.1)

optional_absent : {A : Type 0} (of : A → List ℕ) (Is : A → Type 0) (octet : ℕ) (octets rest : List ℕ) (x : Option A × List ℕ)
    → octet ≡ 0 → Takes octets (one octet) rest → some (None, rest) ≡ Some x → Takes octets (optional of x.0) x.1 × IfSome x.0 Is
optional_absent {A} of Is octet octets rest x is taken e =
    let flag : Takes octets (one 0) rest = subst (λ (n : ℕ). Takes octets (one n) rest) is taken in
    subst (λ (y : Option A × List ℕ). Takes octets (optional of y.0) y.1 × IfSome y.0 Is) (some_is (None, rest) x e) (flag, tt)

optional_takes : {A : Type 0} (of : A → List ℕ) (Is : A → Type 0) (part : Reader A) → Reads of Is part
    → (octets : List ℕ) (x : Option A × List ℕ) → IsOctets octets → optional_in part octets ≡ Some x
    → Takes octets (optional of x.0) x.1 × IfSome x.0 Is
optional_takes {A} of Is part r octets x fits e =
    let f : ℕ × List ℕ → Option (Option A × List ℕ) = λ flag.
    cond (eqb flag.0 0) (Some (None, flag.1)) (cond (eqb flag.0 1) (checked (λ value. Some (Some value)) part flag.1) None) in
    let a = bind_some (octet_in octets) f x e in
    let t = octet_takes octets a.0 fits a.1 in
    elim (chosen (eqb a.0.0 0) (Some (None, a.0.1)) (cond (eqb a.0.0 1) (checked (λ value. Some (Some value)) part a.0.1) None) (Some x) a.2) [
      | inl h ↦ optional_absent of Is a.0.0 octets a.0.1 x (eqb-true a.0.0 0 h.0) t.0 h.1
      | inr h ↦ elim (chosen (eqb a.0.0 1) (checked (λ value. Some (Some value)) part a.0.1) None (Some x) h.1) [
        | inl k ↦ optional_there of Is part r a.0.0 octets a.0.1 x (eqb-true a.0.0 1 k.0) t.0 k.1
        | inr k ↦ absurd (none_is_not x k.1)
      ]
    ]

optional_again : {A : Type 0} (of : A → List ℕ) (Is : A → Type 0) (part : Reader A) → Reads of Is part
    → (value : Option A) (rest : List ℕ) → IfSome value Is → optional_in part (optional of value ++ rest) ≡ Some (value, rest)
unfolding octet_in
optional_again of Is part r None rest is = refl
optional_again of Is part r (Some value) rest is = rw (r.again value rest is) refl

pub optional_reads : {A : Type 0} (of : A → List ℕ) (Is : A → Type 0) (part : Reader A) → Reads of Is part
    → Reads (optional of) (λ value. IfSome value Is) (optional_in part)
optional_reads of Is part r = record { takes = optional_takes of Is part r; again = optional_again of Is part r }

-- ---- so many parts

many_takes : {A : Type 0} (of : A → List ℕ) (Is : A → Type 0) (part : Reader A) → Reads of Is part
    → (count : ℕ) (octets : List ℕ) (x : List A × List ℕ) → IsOctets octets → many_in part count octets ≡ Some x
    → Takes octets (flat_map of x.0) x.1 × (length x.0 ≡ count) × AllByRecursion Is x.0
many_takes {A} of Is part r zero octets x fits e =
    subst (λ (y : List A × List ℕ). Takes octets (flat_map of y.0) y.1 × (length y.0 ≡ 0) × AllByRecursion Is y.0) (some_is ([], octets) x e)
    (record { parts = refl; rest_fits = fits }, refl, tt)
many_takes {A} of Is part r (suc count) octets x fits e =
    let a = bind_some (part octets) (λ first. many_in part count first.1 >>= λ others. Some (first.0 ∷ others.0, others.1)) x e in
    let b = bind_some (many_in part count a.0.1) (λ others. Some (a.0.0 ∷ others.0, others.1)) x a.2 in
    let t = r.takes octets a.0 fits a.1 in
    let u = many_takes of Is part r count a.0.1 b.0 t.0.rest_fits b.1 in
    let all = Takes-then octets (of a.0.0) a.0.1 (flat_map of b.0.0) b.0.1 t.0 u.0 in
    let made : List A × List ℕ = (a.0.0 ∷ b.0.0, b.0.1) in
    subst (λ (y : List A × List ℕ). Takes octets (flat_map of y.0) y.1 × (length y.0 ≡ suc count) × AllByRecursion Is y.0) (some_is made x b.2)
    (rw flat_map-cons all, ap suc u.1, (t.1, u.2))

many_again : {A : Type 0} (of : A → List ℕ) (Is : A → Type 0) (part : Reader A) → Reads of Is part
    → (values : List A) (rest : List ℕ) → AllByRecursion Is values → many_in part (length values) (flat_map of values ++ rest) ≡ Some (values, rest)
many_again of Is part r [] rest is = refl
many_again of Is part r (value ∷ values) rest is =
    let regrouped : flat_map of (value ∷ values) ++ rest ≡ of value ++ (flat_map of values ++ rest) = append_assoc (of value) (flat_map of values) rest in
    ap (many_in part (suc (length values))) regrouped
    ∙ rw (r.again value (flat_map of values ++ rest) is.0, many_again of Is part r values rest is.1) refl

-- so many that their count is spelled
pub record AreCounted {A : Type 0} (limit : ℕ) (Is : A → Type 0) (values : List A) : Type 0 where
  pub few : length values < limit
  pub each : AllByRecursion Is values

pub counted_reads : {A : Type 0} (of_count : ℕ → List ℕ) (limit : ℕ) (count : Reader ℕ) (of : A → List ℕ) (Is : A → Type 0) (part : Reader A)
    → Reads of_count (λ n. n < limit) count → Reads of Is part
    → Reads {A = List A} (λ values. of_count (length values) ++ flat_map of values) (AreCounted limit Is) (counted_in count part)
counted_reads {A} of_count limit count of Is part c r = record {
  takes = λ octets x fits e.
      let a = bind_some (count octets) (λ n. many_in part n.0 n.1) x e in
      let t = c.takes octets a.0 fits a.1 in
      let u = many_takes of Is part r a.0.0 a.0.1 x t.0.rest_fits a.2 in
      let front : Takes octets (of_count (length x.0)) a.0.1 = subst (λ (n : ℕ). Takes octets (of_count n) a.0.1) (sym u.1) t.0 in
      (Takes-then octets (of_count (length x.0)) a.0.1 (flat_map of x.0) x.1 front u.0, record { few = omega (arith, u.1, t.1); each = u.2 });
  again = λ values rest is.
      rw (append_assoc (of_count (length values)) (flat_map of values) rest, c.again (length values) (flat_map of values ++ rest) is.few)
      (many_again of Is part r values rest is.each);
}
