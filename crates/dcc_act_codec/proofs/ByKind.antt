-- Kinds: what follows the octet of a kind is read just where it is spelled, in each version.
use Rattle.std.proofs.Common.{◌≡◌, ℕ, ◌≤◌, Bool, true, false, cond, leb, eqb, List, ◌++◌, length, Option, Some, None, refl, sym, ap₂, subst, ◌∙◌, arith, inl, inr}
use Rattle.std.proofs.lemmas.Bool.{leb-true, le-leb, eqb-true, eq-eqb}
use Rattle.dcc_act.specs.declared.act.Kind.{Kind}
use Rattle.dcc_act.specs.declared.act.Kind.TheVariants as kind
use Rattle.dcc_act.specs.declared.limits.TheConstants.{FEW_SERVICES}
use Rattle.dcc_act.specs.declared.session_limit.SessionLimit.{SessionLimit}
use Rattle.dcc_act.specs.declared.session_limit.SessionLimit.TheVariants.{Few}
use Rattle.dcc_act.specs.declared.session_request.SessionRequest.{SessionRequest}
use Rattle.dcc_act_codec.specs.Limits.{WithinTopUp, WithinRequest, WithinEvent, WithinKind}
use Rattle.dcc_act_codec.specs.Records.{top_up_octets, request_octets, event_octets, kind_octet, kind_octets}
use Rattle.dcc_act_codec.specs.OldRecords.{old_kind_octets, services_of, IsOfOldKind}
use Rattle.dcc_act_codec.specs.inner.Readers.{Reader, checked}
use Rattle.dcc_act_codec.specs.inner.Reading.{top_up_in, request_in, opening_from, opening_parts_in, opening_in, event_in, kind_in}
use Rattle.dcc_act_codec.specs.inner.OldReading.{old_request_in, old_kind_in}
use Rattle.dcc_act_codec.proofs.Parts.{IsOctets, bind_some, some_is, passed, chosen, Takes, Reads, checked_reads}
use Rattle.dcc_act_codec.proofs.Services.{passes, not_none}
use Rattle.dcc_act_codec.proofs.Requests.{top_up_reads, request_reads, opening_parts_octets, AreOpeningParts, opening_reads, opening_spelled, opening_within, opening_again, event_reads}

abbrev some : {A : Type 0} → A → Option A
some x = Some x

-- what was read behind the octet of a kind
pub record IsKindRead (of : Kind → List ℕ) (Is : Kind → Type 0) (octet : ℕ) (octets : List ℕ) (x : Kind × List ℕ) : Type 0 where
  pub stands : octet ≡ kind_octet x.0
  pub takes : Takes octets (of x.0) x.1
  pub within : Is x.0

-- kinds are read just where they are spelled
pub record ReadsKinds (of : Kind → List ℕ) (Is : Kind → Type 0) (read : ℕ → Reader Kind) : Type 0 where
  pub takes : (octet : ℕ) (octets : List ℕ) (x : Kind × List ℕ) → IsOctets octets → read octet octets ≡ Some x → IsKindRead of Is octet octets x
  pub again : (what : Kind) (rest : List ℕ) → Is what → read (kind_octet what) (of what ++ rest) ≡ Some (what, rest)

kind_part : {A : Type 0} (of_kind : Kind → List ℕ) (IsKind : Kind → Type 0) (of : A → List ℕ) (Is : A → Type 0) (part : Reader A) → Reads of Is part
    → (octet n : ℕ) (make : A → Kind)
    → ((value : A) → kind_octet (make value) ≡ n) → ((value : A) → of_kind (make value) ≡ of value) → ((value : A) → Is value → IsKind (make value))
    → (octets : List ℕ) (x : Kind × List ℕ) → IsOctets octets → octet ≡ n → checked (λ value. Some (make value)) part octets ≡ Some x
    → IsKindRead of_kind IsKind octet octets x
kind_part {A} of_kind IsKind of Is part r octet n make as_octet as_octets within octets x fits is e =
    let a = bind_some (part octets) (λ a. Some (make a.0, a.1)) x e in
    let t = r.takes octets a.0 fits a.1 in
    subst (λ (y : Kind × List ℕ). IsKindRead of_kind IsKind octet octets y) (some_is (make a.0.0, a.0.1) x a.2)
    (record {
      stands = is ∙ sym (as_octet a.0.0);
      takes = subst (λ (text : List ℕ). Takes octets text a.0.1) (sym (as_octets a.0.0)) t.0;
      within = within a.0.0 t.1;
    })

otherwise : {P : Type 0} (octet n : ℕ) (y z : Option (Kind × List ℕ)) (x : Kind × List ℕ) → cond (eqb octet n) y z ≡ some x
    → (octet ≡ n → y ≡ some x → P) → (eqb octet n ≡ false → z ≡ some x → P) → P
otherwise octet n y z x e there not_there =
    elim (chosen (eqb octet n) y z (some x) e) [
      | inl h ↦ there (eqb-true octet n h.0) h.1
      | inr h ↦ not_there h.0 h.1
    ]

-- ---- version 2

kind_takes : (octet : ℕ) (octets : List ℕ) (x : Kind × List ℕ) → IsOctets octets → kind_in octet octets ≡ Some x
    → IsKindRead kind_octets WithinKind octet octets x
unfolding kind_in opening_in
kind_takes octet octets x fits e =
    otherwise octet 1 _ _ x e
    (λ is h. kind_part kind_octets WithinKind top_up_octets WithinTopUp top_up_in top_up_reads octet 1 (λ v. kind.TopUp v) (λ v. refl) (λ v. refl) (λ v w. w) octets x fits is h)
    (λ _ e. otherwise octet 2 _ _ x e
    (λ is h. kind_part kind_octets WithinKind opening_parts_octets AreOpeningParts opening_parts_in opening_reads octet 2 opening_from (λ v. refl) opening_spelled opening_within octets x fits is h)
    (λ _ e. otherwise octet 3 _ _ x e
    (λ is h. kind_part kind_octets WithinKind request_octets WithinRequest request_in request_reads octet 3 (λ v. kind.Update v) (λ v. refl) (λ v. refl) (λ v w. w) octets x fits is h)
    (λ _ e. otherwise octet 4 _ _ x e
    (λ is h. kind_part kind_octets WithinKind request_octets WithinRequest request_in request_reads octet 4 (λ v. kind.Termination v) (λ v. refl) (λ v. refl) (λ v w. w) octets x fits is h)
    (λ _ e. otherwise octet 5 _ _ x e
    (λ is h. kind_part kind_octets WithinKind event_octets WithinEvent event_in event_reads octet 5 (λ v. kind.Event v) (λ v. refl) (λ v. refl) (λ v w. w) octets x fits is h)
    (λ _ e. otherwise octet 6 _ _ x e
    (λ is h. subst (λ (y : Kind × List ℕ). IsKindRead kind_octets WithinKind octet octets y) (some_is (kind.Expiry, octets) x h)
    (record { stands = is; takes = record { parts = refl; rest_fits = fits }; within = tt }))
    (λ _ e. not_none x e))))))

kind_again : (what : Kind) (rest : List ℕ) → WithinKind what → kind_in (kind_octet what) (kind_octets what ++ rest) ≡ Some (what, rest)
unfolding kind_in
kind_again (kind.TopUp v) rest is = rw (top_up_reads.again v rest is) refl
kind_again (kind.Initial request limit host) rest is = opening_again request limit host rest is
kind_again (kind.Update v) rest is = rw (request_reads.again v rest is) refl
kind_again (kind.Termination v) rest is = rw (request_reads.again v rest is) refl
kind_again (kind.Event v) rest is = rw (event_reads.again v rest is) refl
kind_again kind.Expiry rest is = refl

pub kinds_read : ReadsKinds kind_octets WithinKind kind_in
kinds_read = record { takes = kind_takes; again = kind_again }

-- ---- version 1

abbrev IsOldRequest : SessionRequest → Type 0
IsOldRequest request = WithinRequest request × (length request.services ≤ 16)

old_request_reads : Reads request_octets IsOldRequest old_request_in
unfolding old_request_in
old_request_reads = checked_reads request_octets WithinRequest request_octets IsOldRequest
    (λ request. cond (leb (length request.services) FEW_SERVICES) (Some request) None) request_in
    (record {
      made = λ request found is e.
          let p = passed (leb (length request.services) FEW_SERVICES) request found e in
          subst (λ (v : SessionRequest). (request_octets request ≡ request_octets v) × IsOldRequest v) p.1 (refl, (is, leb-true _ _ p.0));
      from = λ request is. (request, is.0, passes (leb (length request.services) FEW_SERVICES) request (le-leb _ _ is.1), refl);
    })
    request_reads

pub record IsOldKind (what : Kind) : Type 0 where
  pub within : WithinKind what
  pub few : length (services_of what) ≤ 16
  pub plain : IsOfOldKind what

differ : {P : Type 0} (octet n : ℕ) → eqb octet n ≡ false → octet ≡ n → P
differ octet n not is = absurd (apart (eqb octet n) (eq-eqb octet n is) not)
  where
    apart : (b : Bool) → b ≡ true → b ≡ false → ⊥
    apart b is not = cc

-- kinds that are spelled in version 1 as in version 2
alike : (octet : ℕ) (octets rest : List ℕ) (what : Kind) → eqb octet 2 ≡ false → eqb octet 3 ≡ false → eqb octet 4 ≡ false
    → IsKindRead kind_octets WithinKind octet octets (what, rest) → IsKindRead old_kind_octets IsOldKind octet octets (what, rest)
alike octet octets rest (kind.TopUp v) not_2 not_3 not_4 read =
    record { stands = read.stands; takes = read.takes; within = record { within = read.within; few = omega arith; plain = tt } }
alike octet octets rest (kind.Initial request limit host) not_2 not_3 not_4 read = differ octet 2 not_2 read.stands
alike octet octets rest (kind.Update v) not_2 not_3 not_4 read = differ octet 3 not_3 read.stands
alike octet octets rest (kind.Termination v) not_2 not_3 not_4 read = differ octet 4 not_4 read.stands
alike octet octets rest (kind.Event v) not_2 not_3 not_4 read =
    record { stands = read.stands; takes = read.takes; within = record { within = read.within; few = omega arith; plain = tt } }
alike octet octets rest kind.Expiry not_2 not_3 not_4 read =
    record { stands = read.stands; takes = read.takes; within = record { within = read.within; few = omega arith; plain = tt } }

old_kind_takes : (octet : ℕ) (octets : List ℕ) (x : Kind × List ℕ) → IsOctets octets → old_kind_in octet octets ≡ Some x
    → IsKindRead old_kind_octets IsOldKind octet octets x
unfolding old_kind_in
old_kind_takes octet octets x fits e =
    otherwise octet 2 _ _ x e
    (λ is h. kind_part old_kind_octets IsOldKind request_octets IsOldRequest old_request_in old_request_reads octet 2 (λ v. kind.Initial v Few None) (λ v. refl) (λ v. refl)
    (λ v w. record { within = record { opens = w.0; from = tt }; few = w.1; plain = (refl, refl) }) octets x fits is h)
    (λ not_2 e. otherwise octet 3 _ _ x e
    (λ is h. kind_part old_kind_octets IsOldKind request_octets IsOldRequest old_request_in old_request_reads octet 3 (λ v. kind.Update v) (λ v. refl) (λ v. refl)
    (λ v w. record { within = w.0; few = w.1; plain = tt }) octets x fits is h)
    (λ not_3 e. otherwise octet 4 _ _ x e
    (λ is h. kind_part old_kind_octets IsOldKind request_octets IsOldRequest old_request_in old_request_reads octet 4 (λ v. kind.Termination v) (λ v. refl) (λ v. refl)
    (λ v w. record { within = w.0; few = w.1; plain = tt }) octets x fits is h)
    (λ not_4 e. alike octet octets x.1 x.0 not_2 not_3 not_4 (kind_takes octet octets x fits e))))

old_kind_again : (what : Kind) (rest : List ℕ) → IsOldKind what → old_kind_in (kind_octet what) (old_kind_octets what ++ rest) ≡ Some (what, rest)
unfolding old_kind_in
old_kind_again (kind.TopUp v) rest is = kind_again (kind.TopUp v) rest is.within
old_kind_again (kind.Initial request limit host) rest is =
    rw (old_request_reads.again request rest (is.within.opens, is.few))
    (ap₂ (λ (l : SessionLimit) (h : Option (List ℕ)). some (kind.Initial request l h, rest)) (sym is.plain.0) (sym is.plain.1))
old_kind_again (kind.Update v) rest is = rw (old_request_reads.again v rest (is.within, is.few)) refl
old_kind_again (kind.Termination v) rest is = rw (old_request_reads.again v rest (is.within, is.few)) refl
old_kind_again (kind.Event v) rest is = kind_again (kind.Event v) rest is.within
old_kind_again kind.Expiry rest is = kind_again kind.Expiry rest is.within

pub old_kinds_read : ReadsKinds old_kind_octets IsOldKind old_kind_in
old_kinds_read = record { takes = old_kind_takes; again = old_kind_again }
