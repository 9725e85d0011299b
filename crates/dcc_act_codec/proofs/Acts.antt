-- Acts: octets are read as an act just where they are its record, in each version.
use Rattle.std.proofs.Common.{◌≡◌, ℕ, ◌<◌, ◌≤◌, cond, leb, eqb, List, [], ◌∷◌, ◌++◌, length, Option, Some, None, refl, sym, ap, subst, ◌∙◌, append_assoc, arith}
use Rattle.std.specs.Prelude.{IfOk, IfErr, Result, Ok, Err, ◌≢◌}
use Rattle.std.specs.Int.{w64}
use Rattle.std.proofs.lemmas.Bool.{leb-true, le-leb, eqb-true}
use Rattle.std.proofs.lemmas.List.{append-nil, nil_from_length}
use Rattle.dcc_tariff.specs.declared.limits.TheConstants.{LAST_SECOND}
use Rattle.dcc_act.specs.declared.act.Act.{Act}
use Rattle.dcc_act.specs.declared.act.Kind.{Kind}
use Rattle.dcc_act.specs.declared.act.Kind.TheVariants as kind
use Rattle.dcc_act_codec.specs.Limits.{WithinKind, IsAct}
use Rattle.dcc_act_codec.specs.Records.{u64_octets, kind_octet, kind_octets, record_of}
use Rattle.dcc_act_codec.specs.OldRecords.{old_kind_octets, old_record_of, IsOldAct}
use Rattle.dcc_act_codec.specs.declared.fault.RecordFault.{RecordFault}
use Rattle.dcc_act_codec.specs.declared.fault.RecordFault.TheVariants.{BadRecord, Memory}
use Rattle.dcc_act_codec.specs.inner.Readers.{◌>>=◌, Reader, Gives, octet_in, number_in, fixed_in, whole}
use Rattle.dcc_act_codec.specs.inner.Reading.{kind_in, moment_in, head_in, act_by, first_act_in}
use Rattle.dcc_act_codec.specs.inner.OldReading.{old_kind_in, first_old_act_in}
use Rattle.dcc_act_codec.proofs.Parts.{IsOctets, bind_some, some_is, passed, Takes, Reads, one, octet_reads, checked_reads, fixed_reads}
use Rattle.dcc_act_codec.proofs.Services.{passes, not_none, Is64, u64_reads}
use Rattle.dcc_act_codec.proofs.ByKind.{ReadsKinds, kinds_read, IsOldKind, old_kinds_read}

abbrev some : {A : Type 0} → A → Option A
some x = Some x

abbrev IsMoment : ℕ → Type 0
IsMoment seconds = seconds ≤ LAST_SECOND

moment_reads : Reads u64_octets IsMoment moment_in
unfolding moment_in
moment_reads = checked_reads u64_octets Is64 u64_octets IsMoment (λ seconds. cond (leb seconds LAST_SECOND) (Some seconds) None) (number_in w64)
    (record {
      made = λ seconds found is e.
          let p = passed (leb seconds LAST_SECOND) seconds found e in
          subst (λ (v : ℕ). (u64_octets seconds ≡ u64_octets v) × IsMoment v) p.1 (refl, leb-true _ _ p.0);
      from = λ seconds is. (seconds, omega arith, passes (leb seconds LAST_SECOND) seconds (le-leb _ _ is), refl);
    })
    u64_reads

kind_small : (what : Kind) → kind_octet what < 256
kind_small (kind.TopUp v) = omega arith
kind_small (kind.Initial request limit host) = omega arith
kind_small (kind.Update v) = omega arith
kind_small (kind.Termination v) = omega arith
kind_small (kind.Event v) = omega arith
kind_small kind.Expiry = omega arith

-- ---- the head of a record: its version, the octet of its kind, and its moment

abbrev head_octets : (version octet moment : ℕ) → List ℕ
head_octets version octet moment = version ∷ octet ∷ u64_octets moment

record IsHeadRead (version : ℕ) (octets : List ℕ) (x : (ℕ × ℕ) × List ℕ) : Type 0 where
  takes : Takes octets (head_octets version x.0.0 x.0.1) x.1
  moment : x.0.1 ≤ LAST_SECOND

head_joined : (version octet moment : ℕ) (octets r1 r2 r3 : List ℕ) → octets ≡ one version ++ r1 → r1 ≡ one octet ++ r2 → r2 ≡ u64_octets moment ++ r3
    → octets ≡ head_octets version octet moment ++ r3
head_joined version octet moment octets r1 r2 r3 first second third =
    first ∙ ap (λ (r : List ℕ). one version ++ r) second ∙ ap (λ (r : List ℕ). one version ++ (one octet ++ r)) third

head_takes : (version : ℕ) → version < 256 → (octets : List ℕ) (x : (ℕ × ℕ) × List ℕ) → IsOctets octets → head_in version octets ≡ Some x → IsHeadRead version octets x
unfolding head_in
head_takes version small octets x fits e =
    let a = bind_some (fixed_in version octets) (λ front. octet_in front.1 >>= λ octet. moment_in octet.1 >>= λ moment. Some ((octet.0, moment.0), moment.1)) x e in
    let b = bind_some (octet_in a.0.1) (λ octet. moment_in octet.1 >>= λ moment. Some ((octet.0, moment.0), moment.1)) x a.2 in
    let c = bind_some (moment_in b.0.1) (λ moment. Some ((b.0.0, moment.0), moment.1)) x b.2 in
    let t = (fixed_reads version small).takes octets a.0 fits a.1 in
    let u = octet_reads.takes a.0.1 b.0 t.0.rest_fits b.1 in
    let v = moment_reads.takes b.0.1 c.0 u.0.rest_fits c.1 in
    let first : octets ≡ one version ++ a.0.1 = subst (λ (n : ℕ). octets ≡ one n ++ a.0.1) t.1 t.0.parts in
    let made : (ℕ × ℕ) × List ℕ = ((b.0.0, c.0.0), c.0.1) in
    subst (λ (y : (ℕ × ℕ) × List ℕ). IsHeadRead version octets y) (some_is made x c.2)
    (record {
      takes = record { parts = head_joined version b.0.0 c.0.0 octets a.0.1 b.0.1 c.0.1 first u.0.parts v.0.parts; rest_fits = v.0.rest_fits };
      moment = v.1;
    })

head_again : (version octet moment : ℕ) (rest : List ℕ) → version < 256 → octet < 256 → moment ≤ LAST_SECOND
    → head_in version (head_octets version octet moment ++ rest) ≡ Some ((octet, moment), rest)
unfolding head_in
head_again version octet moment rest small few early =
    let r2 = u64_octets moment ++ rest in
    let r1 = one octet ++ r2 in
    let first : fixed_in version (one version ++ r1) ≡ Some (version, r1) = (fixed_reads version small).again version r1 refl in
    let second : octet_in r1 ≡ Some (octet, r2) = octet_reads.again octet r2 few in
    let third : moment_in r2 ≡ Some (moment, rest) = moment_reads.again moment rest early in
    rw (first, second, third) refl

-- ---- acts of a version

-- what an act of a version is, by its kind
record Holds (IsKind : Kind → Type 0) (Is : Act → Type 0) : Type 0 where
  moment : (act : Act) → Is act → act.moment ≤ LAST_SECOND
  kind : (act : Act) → Is act → IsKind act.kind
  made : (act : Act) → act.moment ≤ LAST_SECOND → IsKind act.kind → Is act

abbrev act_octets : (version : ℕ) → (Kind → List ℕ) → Act → List ℕ
act_octets version of act = version ∷ kind_octet act.kind ∷ u64_octets act.moment ++ of act.kind

by_takes : (version : ℕ) (of : Kind → List ℕ) (IsKind : Kind → Type 0) (kinds : ℕ → Reader Kind) (Is : Act → Type 0)
    → version < 256 → ReadsKinds of IsKind kinds → Holds IsKind Is
    → (octets : List ℕ) (x : Act × List ℕ) → IsOctets octets → act_by version kinds octets ≡ Some x → Takes octets (act_octets version of x.0) x.1 × Is x.0
unfolding act_by
by_takes version of IsKind kinds Is small r holds octets x fits e =
    let a = bind_some (head_in version octets) (λ head. kinds head.0.0 head.1 >>= λ what. Some (record { moment = head.0.1; kind = what.0 }, what.1)) x e in
    let b = bind_some (kinds a.0.0.0 a.0.1) (λ what. Some (record { moment = a.0.0.1; kind = what.0 }, what.1)) x a.2 in
    let t = head_takes version small octets a.0 fits a.1 in
    let u = r.takes a.0.0.0 a.0.1 b.0 t.takes.rest_fits b.1 in
    let made : Act = record { moment = a.0.0.1; kind = b.0.0 } in
    let front : octets ≡ head_octets version (kind_octet b.0.0) a.0.0.1 ++ a.0.1 =
    subst (λ (n : ℕ). octets ≡ head_octets version n a.0.0.1 ++ a.0.1) u.stands t.takes.parts in
    let all : octets ≡ act_octets version of made ++ b.0.1 =
    front ∙ ap (λ (r : List ℕ). head_octets version (kind_octet b.0.0) a.0.0.1 ++ r) u.takes.parts
    ∙ sym (append_assoc (head_octets version (kind_octet b.0.0) a.0.0.1) (of b.0.0) b.0.1) in
    subst (λ (y : Act × List ℕ). Takes octets (act_octets version of y.0) y.1 × Is y.0) (some_is (made, b.0.1) x b.2)
    (record { parts = all; rest_fits = u.takes.rest_fits }, holds.made made t.moment u.within)

by_again : (version : ℕ) (of : Kind → List ℕ) (IsKind : Kind → Type 0) (kinds : ℕ → Reader Kind) (Is : Act → Type 0)
    → version < 256 → ReadsKinds of IsKind kinds → Holds IsKind Is
    → (act : Act) (rest : List ℕ) → Is act → act_by version kinds (act_octets version of act ++ rest) ≡ Some (act, rest)
unfolding act_by
by_again version of IsKind kinds Is small r holds act rest is =
    let regrouped : act_octets version of act ++ rest ≡ head_octets version (kind_octet act.kind) act.moment ++ (of act.kind ++ rest) =
    append_assoc (head_octets version (kind_octet act.kind) act.moment) (of act.kind) rest in
    let head : head_in version (act_octets version of act ++ rest) ≡ Some ((kind_octet act.kind, act.moment), of act.kind ++ rest) =
    ap (head_in version) regrouped
    ∙ head_again version (kind_octet act.kind) act.moment (of act.kind ++ rest) small (kind_small act.kind) (holds.moment act is) in
    rw (head, r.again act.kind rest (holds.kind act is)) refl

pub act_reads : Reads record_of IsAct first_act_in
unfolding record_of first_act_in
act_reads =
    let holds : Holds WithinKind IsAct = record { moment = λ act is. is.moment; kind = λ act is. is.kind; made = λ act early is. record { moment = early; kind = is } } in
    record {
      takes = by_takes 2 kind_octets WithinKind kind_in IsAct (omega arith) kinds_read holds;
      again = by_again 2 kind_octets WithinKind kind_in IsAct (omega arith) kinds_read holds;
    }

pub old_act_reads : Reads old_record_of IsOldAct first_old_act_in
unfolding old_record_of first_old_act_in
old_act_reads =
    let holds : Holds IsOldKind IsOldAct = record {
      moment = λ act is. is.is_act.moment;
      kind = λ act is. record { within = is.is_act.kind; few = is.few; plain = is.plain };
      made = λ act early is. record { is_act = record { moment = early; kind = is.within }; few = is.few; plain = is.plain };
    } in
    record {
      takes = by_takes 1 old_kind_octets IsOldKind old_kind_in IsOldAct (omega arith) old_kinds_read holds;
      again = by_again 1 old_kind_octets IsOldKind old_kind_in IsOldAct (omega arith) old_kinds_read holds;
    }

-- ---- all of the octets

whole_takes : (of : Act → List ℕ) (Is : Act → Type 0) (read : Reader Act) → Reads of Is read
    → (octets : List ℕ) (act : Act) → IsOctets octets → whole read octets ≡ Some act → (octets ≡ of act) × Is act
whole_takes of Is read r octets act fits e =
    let a = bind_some (read octets) (λ found. cond (eqb (length found.1) 0) (Some found.0) None) act e in
    let g = passed (eqb (length a.0.1) 0) a.0.0 act a.2 in
    let t = r.takes octets a.0 fits a.1 in
    let nothing : a.0.1 ≡ [] = nil_from_length a.0.1 (eqb-true _ _ g.0) in
    let all : octets ≡ of a.0.0 = t.0.parts ∙ ap (λ (r : List ℕ). of a.0.0 ++ r) nothing ∙ append-nil (of a.0.0) in
    subst (λ (y : Act). (octets ≡ of y) × Is y) g.1 (all, t.1)

whole_again : (of : Act → List ℕ) (Is : Act → Type 0) (read : Reader Act) → Reads of Is read → (act : Act) → Is act → whole read (of act) ≡ Some act
whole_again of Is read r act is =
    let found : read (of act) ≡ Some (act, []) = ap read (sym (append-nil (of act))) ∙ r.again act [] is in
    rw found refl

-- two acts have not one record, and what follows a record is told apart from it
pub one_record : (of : Act → List ℕ) (Is : Act → Type 0) (read : Reader Act) → Reads of Is read → (a b : Act) → Is a → Is b → of a ≡ of b → a ≡ b
one_record of Is read r a b is_a is_b e = some_is a b (sym (whole_again of Is read r a is_a) ∙ ap (whole read) e ∙ whole_again of Is read r b is_b)

pub told_apart : (of : Act → List ℕ) (Is : Act → Type 0) (read : Reader Act) → Reads of Is read
    → (a b : Act) (x y : List ℕ) → Is a → Is b → of a ++ x ≡ of b ++ y → (a ≡ b) × (x ≡ y)
told_apart of Is read r a b x y is_a is_b e =
    let both : ◌≡◌ {A = Act × List ℕ} (a, x) (b, y) = some_is (a, x) (b, y) (sym (r.again a x is_a) ∙ ap read e ∙ r.again b y is_b) in
    (ap (λ (p : Act × List ℕ). p.0) both, ap (λ (p : Act × List ℕ). p.1) both)

-- what a call answers
pub is_found : (of : Act → List ℕ) (Is : Act → Type 0) (read : Reader Act) → Reads of Is read
    → (octets : List ℕ) (answer : Result Act RecordFault) → IsOctets octets → Gives (λ act. act) answer (whole read octets)
    → IfOk answer (λ act. octets ≡ of act)
is_found of Is read r octets (Ok act) fits given = (whole_takes of Is read r octets act fits given).0
is_found of Is read r octets (Err fault) fits given = tt

pub is_within : (of : Act → List ℕ) (Is : Act → Type 0) (read : Reader Act) → Reads of Is read
    → (octets : List ℕ) (answer : Result Act RecordFault) → IsOctets octets → Gives (λ act. act) answer (whole read octets) → IfOk answer Is
is_within of Is read r octets (Ok act) fits given = (whole_takes of Is read r octets act fits given).1
is_within of Is read r octets (Err fault) fits given = tt

none_read : (of : Act → List ℕ) (Is : Act → Type 0) (read : Reader Act) → Reads of Is read
    → (octets : List ℕ) (act : Act) → whole read octets ≡ None → Is act → of act ≢ octets
none_read of Is read r octets act none is e = not_none act (sym none ∙ ap (whole read) (sym e) ∙ whole_again of Is read r act is)

pub is_refused : (of : Act → List ℕ) (Is : Act → Type 0) (read : Reader Act) → Reads of Is read
    → (octets : List ℕ) (answer : Result Act RecordFault) → Gives (λ act. act) answer (whole read octets)
    → IfErr answer (λ fault. fault ≡ BadRecord → (act : Act) → Is act → of act ≢ octets)
is_refused of Is read r octets (Ok act) given = tt
is_refused of Is read r octets (Err BadRecord) given = λ is act within. none_read of Is read r octets act given within
is_refused of Is read r octets (Err Memory) given = λ is. absurd cc
