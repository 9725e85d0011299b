-- Steps whose refusals show no more than a message has.
use Rattle.std.proofs.Common.{ℕ, zero, suc, ◌+◌, ◌*◌, ◌≤◌, Bool, List, [], ◌∷◌, length, Option, Some, None, Result, Ok, Err, arith, inl, inr}
use Rattle.std.specs.Prelude.{find, filter, slice_get, IfSome, IfOk}
use Rattle.std.specs.Int.{next_multiple_of}
use Rattle.std.specs.List.{AllByRecursion, sum_by}
use Rattle.std.specs.Option.{option_or, ok_or}
use Rattle.std.proofs.lemmas.Bool.{cases_Bool}
use Rattle.std.proofs.lemmas.List.Sums.{sum_by-cons}
use Rattle.dcc_avp.specs.Spelling.{AvpView, has_vendor, header_len, padded_len}
use Rattle.dcc_avp.specs.Reading.{FaultView, avps_of}
use Rattle.dcc_message.specs.declared.length.TheConstants.{MAX_LENGTH}
use Rattle.dcc_request.specs.declared.cause.Cause.{Cause}
use Rattle.dcc_request.specs.Refusals.{Refusal, refusal, ◌>>=◌, each, clear}
use Rattle.dcc_request.specs.Layout.{unread, list_or_refusal, message_list}
use Rattle.dcc_request.specs.Checks.{missing_avp}
use Rattle.dcc_request.specs.Sizes.{AreWithin}

-- with its padding an AVP has no more octets than a message, and so have those of a list together
abbrev pub IsFew : AvpView → Type 0
IsFew avp = padded_len avp ≤ MAX_LENGTH

abbrev pub AreFew : List AvpView → Type 0
AreFew avps = sum_by padded_len avps ≤ MAX_LENGTH

-- what is read satisfies P, or its refusal shows so few
abbrev pub Bounded : {X : Type 0} → (X → Type 0) → Result X Refusal → Type 0
Bounded P (Ok x) = P x
Bounded P (Err refusal) = AreFew refusal.failed

-- a refusal that is found shows so few
abbrev pub MayShow : Option Refusal → Type 0
MayShow None = Unit {0}
MayShow (Some refusal) = AreFew refusal.failed

-- of what is read nothing is said
abbrev pub Any : {X : Type 0} → X → Type 0
Any x = Unit {0}

-- what the laws of lower crates say
pub record Laws : Type 0 where
  pub list : (octets : List ℕ) → IfOk (message_list octets) (λ avps. sum_by padded_len avps ≤ next_multiple_of (length octets) 4)
  pub unread : (fault : FaultView) → sum_by padded_len (unread fault).failed ≤ 24
  pub missing : (code : ℕ) → padded_len (missing_avp code) ≤ 24
  pub each : (avps : List AvpView) → AreFew avps → AreWithin MAX_LENGTH avps

-- ---- steps

pub bind_any : {X Y : Type 0} (Q : Y → Type 0) (r : Result X Refusal) (f : X → Result Y Refusal) → Bounded Any r → ((x : X) → Bounded Q (f x)) → Bounded Q (r >>= f)
bind_any Q (Ok x) f here next = next x
bind_any Q (Err refusal) f here next = here

pub bind : {X Y : Type 0} (P : X → Type 0) (Q : Y → Type 0) (r : Result X Refusal) (f : X → Result Y Refusal) → Bounded P r →
    ((x : X) → P x → Bounded Q (f x)) → Bounded Q (r >>= f)
bind P Q (Ok x) f here next = next x here
bind P Q (Err refusal) f here next = here

pub of_any : {X : Type 0} (P : X → Type 0) (r : Result X Refusal) → Bounded P r → Bounded Any r
of_any P (Ok x) h = tt
of_any P (Err refusal) h = h

pub clear_bounded : (found : Option Refusal) → MayShow found → Bounded Any (clear found)
clear_bounded None h = tt
clear_bounded (Some refusal) h = h

pub ok_bounded : {X : Type 0} (P : X → Type 0) (o : Option X) (refusal : Refusal) → IfSome o P → AreFew refusal.failed → Bounded P (ok_or o refusal)
ok_bounded P None refusal some none = none
ok_bounded P (Some x) refusal some none = some

pub each_bounded : {X Y : Type 0} (P : X → Type 0) (Q : Y → Type 0) (f : X → Result Y Refusal) (xs : List X) → ((x : X) → P x → Bounded Q (f x)) →
    AllByRecursion P xs → Bounded (AllByRecursion Q) (each f xs)
each_bounded P Q f [] good all = tt
each_bounded P Q f (x ∷ xs) good all =
    bind Q (AllByRecursion Q) (f x) (λ first. each f xs >>= λ others. Ok (first ∷ others)) (good x all.0)
    (λ first fine. bind (AllByRecursion Q) (AllByRecursion Q) (each f xs) (λ others. Ok (first ∷ others)) (each_bounded P Q f xs good all.1)
    (λ others rest. (fine, rest)))

-- ---- sums

first_of : (n m most : ℕ) → n + m ≤ most → n ≤ most
first_of n m most h = omega arith

others_of : (n m most : ℕ) → n + m ≤ most → m ≤ most
others_of n m most h = omega arith

both_of : (a b n m : ℕ) → 12 * a ≤ n → 12 * b ≤ m → 12 * (a + b) ≤ n + m
both_of a b n m one other = omega arith

summed : {X Y : Type 0} (octets : X → ℕ) (count : Y → ℕ) (x : X) (xs : List X) (first : Result Y Refusal) (others : Result (List Y) Refusal) →
    Bounded (λ y. 12 * count y ≤ octets x) first → Bounded (λ ys. 12 * sum_by count ys ≤ sum_by octets xs) others →
    Bounded (λ ys. 12 * sum_by count ys ≤ sum_by octets (x ∷ xs)) (first >>= λ first. others >>= λ others. Ok (first ∷ others))
summed octets count x xs (Ok y) (Ok ys) one rest =
    rw (sum_by-cons count y ys, sum_by-cons octets x xs) (both_of (count y) (sum_by count ys) (octets x) (sum_by octets xs) one rest)
summed octets count x xs (Ok y) (Err refusal) one rest = rest
summed octets count x xs (Err refusal) others one rest = one

-- twelve octets for each that is counted
pub each_counted : {X Y : Type 0} (octets : X → ℕ) (count : Y → ℕ) (f : X → Result Y Refusal) (xs : List X) →
    ((x : X) → octets x ≤ MAX_LENGTH → Bounded (λ y. 12 * count y ≤ octets x) (f x)) → sum_by octets xs ≤ MAX_LENGTH →
    Bounded (λ ys. 12 * sum_by count ys ≤ sum_by octets xs) (each f xs)
each_counted octets count f [] good few = omega arith
each_counted octets count f (x ∷ xs) good few =
    let all = rw (sum_by-cons octets x xs) at few in
    summed octets count x xs (f x) (each f xs) (good x (first_of (octets x) (sum_by octets xs) MAX_LENGTH all))
    (each_counted octets count f xs good (others_of (octets x) (sum_by octets xs) MAX_LENGTH all))

pub filter_less : (test : AvpView → Bool) (avps : List AvpView) → sum_by padded_len (filter test avps) ≤ sum_by padded_len avps
filter_less test [] = omega arith
filter_less test (avp ∷ avps) =
    let rest = filter_less test avps in
    let all = sum_by-cons padded_len avp avps in
    let these = sum_by-cons padded_len avp (filter test avps) in
    elim (cases_Bool (test avp)) [
      | inl here ↦ rw here (omega arith)
      | inr other ↦ rw other (omega arith)
    ]

-- ---- what is found

pub found : {X : Type 0} (P : X → Type 0) (test : X → Bool) (xs : List X) → AllByRecursion P xs → IfSome (find test xs) P
found P test [] h = tt
found P test (x ∷ xs) h =
    elim (cases_Bool (test x)) [
      | inl here ↦ rw here h.0
      | inr other ↦ rw other (found P test xs h.1)
    ]

pub gotten : {X : Type 0} (P : X → Type 0) (xs : List X) (i : ℕ) → AllByRecursion P xs → IfSome (slice_get xs i) P
gotten P [] i h = tt
gotten P (x ∷ xs) zero h = h.0
gotten P (x ∷ xs) (suc i) h = gotten P xs i h.1

pub either : {X : Type 0} (P : X → Type 0) (a b : Option X) → IfSome a P → IfSome b P → IfSome (option_or a b) P
either P None b one other = other
either P (Some x) b one other = one

-- ---- what refusals show

pub shows_one : (cause : Cause) (avp : AvpView) → IsFew avp → AreFew (refusal cause avp).failed
shows_one cause avp h = omega arith

few_of : (n : ℕ) → n ≤ 24 → n ≤ MAX_LENGTH
few_of n h = omega arith

pub missing_few : Laws → (code : ℕ) → IsFew (missing_avp code)
missing_few laws code = few_of (padded_len (missing_avp code)) (laws.missing code)

pub header_least : (flags : ℕ) → 8 ≤ header_len flags
header_least flags =
    elim (cases_Bool (has_vendor flags)) [
      | inl vendor ↦ rw vendor (omega arith)
      | inr own ↦ rw own (omega arith)
    ]

inside : (header size all : ℕ) → 8 ≤ header → all ≤ next_multiple_of size 4 → all ≤ next_multiple_of (header + size) 4
inside header size all least h = omega arith

read_bounded : Laws → (group : AvpView) (read : Result (List AvpView) FaultView) →
    IfOk (list_or_refusal read) (λ avps. sum_by padded_len avps ≤ next_multiple_of (length group.value) 4) →
    Bounded (λ avps. sum_by padded_len avps ≤ padded_len group) (list_or_refusal read)
read_bounded laws group (Ok avps) h = inside (header_len group.flags) (length group.value) (sum_by padded_len avps) (header_least group.flags) h
read_bounded laws group (Err fault) h = few_of (sum_by padded_len (unread fault).failed) (laws.unread fault)

-- the list of a group is within the group
pub list_bounded : Laws → (group : AvpView) → Bounded (λ avps. sum_by padded_len avps ≤ padded_len group) (message_list group.value)
unfolding message_list
list_bounded laws group = read_bounded laws group (avps_of group.value) (laws.list group.value)
