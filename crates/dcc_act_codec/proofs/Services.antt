-- Services: their parts are read just where they are spelled.
use Rattle.std.proofs.Common.{◌≡◌, ℕ, ◌^◌, ◌<◌, ◌≤◌, Bool, true, cond, leb, eqb, List, [], ◌∷◌, ◌++◌, length, All, Option, Some, None, refl, sym, ap, subst, ◌∙◌, arith, inl, inr}
use Rattle.std.specs.Prelude.{IfSome, is_some, is_none, not, ◌&&◌}
use Rattle.std.specs.Option.{ForSome}
use Rattle.std.specs.Int.{w16, w32, w64, to_be_bytes}
use Rattle.std.specs.List.{flat_map, AllByRecursion}
use Rattle.std.proofs.lemmas.Bool.{leb-true, le-leb, eqb-true, eq-eqb, and_parts, and_from}
use Rattle.std.proofs.lemmas.List.Elements.{All-from_recursion, All-head, All-tail}
use Rattle.dcc_tariff.specs.Terms.{TariffView, IsTariff}
use Rattle.dcc_tariff.specs.declared.limits.TheConstants.{MAX_UNITS, MAX_BLOCK_PRICE}
use Rattle.dcc_tariff.specs.declared.tariff.UnitKind.{UnitKind}
use Rattle.dcc_tariff.specs.declared.tariff.UnitKind.TheVariants as unit
use Rattle.dcc_act.specs.declared.limits.TheConstants.{MAX_IDS, MAX_SECONDS}
use Rattle.dcc_act.specs.declared.service.Form.{Form}
use Rattle.dcc_act.specs.declared.service.Form.TheVariants as form
use Rattle.dcc_act.specs.Services.{ServiceView, IsService, are_services}
use Rattle.dcc_act_codec.specs.Limits.{WithinService}
use Rattle.dcc_act_codec.specs.Records.{u32_octets, u64_octets, optional, form_octet, unit_octet, ids_octets, tariff_octets, service_octets, services_octets}
use Rattle.dcc_act_codec.specs.inner.Readers.{octet_in, number_in, both, counted_in}
use Rattle.dcc_act_codec.specs.inner.Reading.{form_from, unit_from, form_in, unit_in, ids_in, is_tariff, tariff_from, tariff_in, is_nothing, is_used, most_asked, is_asked, is_service, ServiceParts, service_from, service_parts_in, service_in, services_in}
use Rattle.dcc_act_codec.proofs.Parts.{some_is, passed, chosen, Reads, one, octet_reads, wide16, wide32, wide64, number_reads, both_reads, Makes, checked_reads, optional_reads, AreCounted, counted_reads}

abbrev some : {A : Type 0} → A → Option A
some x = Some x

pub passes : {A : Type 0} (b : Bool) (x : A) → b ≡ true → cond b (Some x) None ≡ some x
passes b x e = rw e refl

pub to_recursion : {A : Type 0} (P : A → Type 0) (xs : List A) → All P xs → AllByRecursion P xs
to_recursion P [] all = tt
to_recursion P (x ∷ xs) all = (All-head P x xs all, to_recursion P xs (All-tail P x xs all))

-- ---- numbers

abbrev pub Is32 : ℕ → Type 0
Is32 n = n < 2 ^ 32

abbrev pub Is64 : ℕ → Type 0
Is64 n = n < 2 ^ 64

pub u32_reads : Reads u32_octets Is32 (number_in w32)
u32_reads = number_reads w32 (2 ^ 32) wide32

pub u64_reads : Reads u64_octets Is64 (number_in w64)
u64_reads = number_reads w64 (2 ^ 64) wide64

-- ---- what one octet says

abbrev pub Any : {A : Type 0} → A → Type 0
Any value = Unit {0}

-- the octet of the value for which it stands, or of one of the others
pub picked : {A : Type 0} (octet_of : A → ℕ) (octet : ℕ) (value : A) (others : Option A) (found : A)
    → cond (eqb octet (octet_of value)) (Some value) others ≡ some found → (others ≡ some found → octet ≡ octet_of found) → octet ≡ octet_of found
picked {A} octet_of octet value others found e go =
    elim (chosen (eqb octet (octet_of value)) (Some value) others (some found) e) [
      | inl h ↦ eqb-true octet (octet_of value) h.0 ∙ ap octet_of (some_is value found h.1)
      | inr h ↦ go h.1
    ]

pub not_none : {A : Type 0} {P : Type 0} (found : A) → None ≡ some found → P
not_none found e = absurd (none_is found e)
  where
    none_is : {A : Type 0} (found : A) → None ≡ some found → ⊥
    none_is found e = cc

form_back : (octet : ℕ) (found : Form) → form_from octet ≡ some found → octet ≡ form_octet found
form_back octet found e =
    picked form_octet octet form.Single (cond (eqb octet 1) (Some form.Multi) None) found e
    (λ e. picked form_octet octet form.Multi None found e (λ e. not_none found e))

form_small : (form : Form) → form_octet form < 256
form_small form.Single = omega arith
form_small form.Multi = omega arith

form_again : (form : Form) → form_from (form_octet form) ≡ Some form
form_again form.Single = refl
form_again form.Multi = refl

pub form_reads : Reads (λ form. one (form_octet form)) Any form_in
unfolding form_in
form_reads = checked_reads one (λ octet. octet < 256) (λ form. one (form_octet form)) Any form_from octet_in
    (record {
      made = λ octet found is e. (ap one (form_back octet found e), tt);
      from = λ form is. (form_octet form, form_small form, form_again form, refl);
    })
    octet_reads

unit_back : (octet : ℕ) (found : Option UnitKind) → unit_from octet ≡ some found → octet ≡ unit_octet found
unit_back octet found e =
    picked unit_octet octet None
    (cond (eqb octet 1) (Some (Some unit.Octets)) (cond (eqb octet 2) (Some (Some unit.Time)) (cond (eqb octet 3) (Some (Some unit.Units)) None))) found e
    (λ e. picked unit_octet octet (Some unit.Octets)
    (cond (eqb octet 2) (Some (Some unit.Time)) (cond (eqb octet 3) (Some (Some unit.Units)) None)) found e
    (λ e. picked unit_octet octet (Some unit.Time) (cond (eqb octet 3) (Some (Some unit.Units)) None) found e
    (λ e. picked unit_octet octet (Some unit.Units) None found e (λ e. not_none found e))))

unit_small : (unit : Option UnitKind) → unit_octet unit < 256
unit_small None = omega arith
unit_small (Some unit.Octets) = omega arith
unit_small (Some unit.Time) = omega arith
unit_small (Some unit.Units) = omega arith

unit_again : (unit : Option UnitKind) → unit_from (unit_octet unit) ≡ Some unit
unit_again None = refl
unit_again (Some unit.Octets) = refl
unit_again (Some unit.Time) = refl
unit_again (Some unit.Units) = refl

pub unit_reads : Reads (λ unit. one (unit_octet unit)) Any unit_in
unfolding unit_in
unit_reads = checked_reads one (λ octet. octet < 256) (λ unit. one (unit_octet unit)) Any unit_from octet_in
    (record {
      made = λ octet found is e. (ap one (unit_back octet found e), tt);
      from = λ unit is. (unit_octet unit, unit_small unit, unit_again unit, refl);
    })
    octet_reads

-- ---- identifiers and tariffs

abbrev pub AreIds : List ℕ → Type 0
AreIds ids = All Is32 ids × (length ids ≤ MAX_IDS)

pub ids_reads : Reads ids_octets AreIds ids_in
unfolding ids_in ids_octets
ids_reads = checked_reads {A = List ℕ} (λ ids. to_be_bytes w16 (length ids) ++ flat_map u32_octets ids) (AreCounted (2 ^ 16) Is32) ids_octets AreIds
    (λ ids. cond (leb (length ids) MAX_IDS) (Some ids) None) (counted_in (number_in w16) (number_in w32))
    (record {
      made = λ ids found is e.
          let p = passed (leb (length ids) MAX_IDS) ids found e in
          subst (λ (v : List ℕ). (to_be_bytes w16 (length ids) ++ flat_map u32_octets ids ≡ ids_octets v) × AreIds v) p.1
          (refl, (All-from_recursion Is32 ids is.each, leb-true _ _ p.0));
      from = λ ids is.
          (ids, record { few = omega (arith, is.1); each = to_recursion Is32 ids is.0 }, passes (leb (length ids) MAX_IDS) ids (le-leb _ _ is.1), refl);
    })
    (counted_reads (to_be_bytes w16) (2 ^ 16) (number_in w16) u32_octets Is32 (number_in w32) (number_reads w16 (2 ^ 16) wide16) u32_reads)

tariff_right : (price block : ℕ) → is_tariff price block ≡ true → IsTariff (record { price = price; block = block })
tariff_right price block h =
    let p = and_parts (leb price MAX_BLOCK_PRICE && leb 1 block) (leb block MAX_UNITS) h in
    let q = and_parts (leb price MAX_BLOCK_PRICE) (leb 1 block) p.0 in
    record { price = leb-true _ _ q.0; block_begun = leb-true _ _ q.1; block = leb-true _ _ p.1 }

tariff_again : (tariff : TariffView) → IsTariff tariff → is_tariff tariff.price tariff.block ≡ true
tariff_again tariff is =
    and_from (leb tariff.price MAX_BLOCK_PRICE && leb 1 tariff.block) (leb tariff.block MAX_UNITS)
    (and_from (leb tariff.price MAX_BLOCK_PRICE) (leb 1 tariff.block) (le-leb _ _ is.price) (le-leb _ _ is.block_begun)) (le-leb _ _ is.block)

pub tariff_reads : Reads tariff_octets IsTariff tariff_in
unfolding tariff_in tariff_octets
tariff_reads = checked_reads {A = ℕ × ℕ} (λ p. u32_octets p.0 ++ u64_octets p.1) (λ p. Is32 p.0 × Is64 p.1) tariff_octets IsTariff
    tariff_from (both (number_in w32) (number_in w64))
    (record {
      made = λ part found is e.
          let p = passed (is_tariff part.0 part.1) (record { price = part.0; block = part.1 }) found e in
          subst (λ (v : TariffView). (u32_octets part.0 ++ u64_octets part.1 ≡ tariff_octets v) × IsTariff v) p.1
          (refl, tariff_right part.0 part.1 p.0);
      from = λ tariff is.
          ((tariff.price, tariff.block), (omega (arith, is.price), omega (arith, is.block)), passes (is_tariff tariff.price tariff.block) tariff (tariff_again tariff is), refl);
    })
    (both_reads u32_octets Is32 (number_in w32) u64_octets Is64 (number_in w64) u32_reads u64_reads)

-- ---- amounts

nothing_is : (amount : Option ℕ) → is_nothing amount ≡ true → ForSome amount (λ units. units ≡ 0)
nothing_is None h units e = not_none units e
nothing_is (Some n) h units e = sym (some_is n units e) ∙ eqb-true n 0 h

nothing_from : (amount : Option ℕ) → ForSome amount (λ units. units ≡ 0) → is_nothing amount ≡ true
nothing_from None is = refl
nothing_from (Some n) is = eq-eqb n 0 (is n refl)

used_is : (amount : Option ℕ) → is_used amount ≡ true → ForSome amount (λ units. units ≤ MAX_UNITS)
used_is None h units e = not_none units e
used_is (Some n) h units e = subst (λ (k : ℕ). k ≤ MAX_UNITS) (some_is n units e) (leb-true _ _ h)

used_from : (amount : Option ℕ) → ForSome amount (λ units. units ≤ MAX_UNITS) → is_used amount ≡ true
used_from None is = refl
used_from (Some n) is = le-leb _ _ (is n refl)

asked_is : (kind : UnitKind) (amount : Option ℕ) → is_asked kind amount ≡ true → ForSome amount (λ units. (1 ≤ units) × (units ≤ most_asked kind))
asked_is kind None h units e = not_none units e
asked_is kind (Some n) h units e =
    let p = and_parts (leb 1 n) (leb n (most_asked kind)) h in
    subst (λ (k : ℕ). (1 ≤ k) × (k ≤ most_asked kind)) (some_is n units e) (leb-true _ _ p.0, leb-true _ _ p.1)

asked_from : (kind : UnitKind) (amount : Option ℕ) → ForSome amount (λ units. (1 ≤ units) × (units ≤ most_asked kind)) → is_asked kind amount ≡ true
asked_from kind None is = refl
asked_from kind (Some n) is =
    let p = is n refl in
    and_from (leb 1 n) (leb n (most_asked kind)) (le-leb _ _ p.0) (le-leb _ _ p.1)

most_few : (kind : UnitKind) → most_asked kind ≤ MAX_UNITS
most_few unit.Octets = omega arith
most_few unit.Time = omega arith
most_few unit.Units = omega arith

most_from : (kind : UnitKind) (units : ℕ) → units ≤ MAX_UNITS → (some kind ≡ Some unit.Time → units ≤ MAX_SECONDS) → units ≤ most_asked kind
most_from unit.Octets units few short = few
most_from unit.Time units few short = short refl
most_from unit.Units units few short = few

unrated_is : (tariff : Option TariffView) → not (is_some tariff) ≡ true → is_none tariff ≡ true
unrated_is None h = refl
unrated_is (Some tariff) h = absurd cc

unrated_from : (tariff : Option TariffView) → is_none tariff ≡ true → not (is_some tariff) ≡ true
unrated_from None h = refl
unrated_from (Some tariff) h = absurd cc

service_right : (asked used : Option ℕ) (kind : Option UnitKind) (tariff : Option TariffView)
    → is_service asked used kind (is_some tariff) ≡ true → IsService asked used kind tariff
unfolding is_service
service_right asked used None tariff h =
    let p = and_parts (is_nothing asked && is_nothing used) (not (is_some tariff)) h in
    let q = and_parts (is_nothing asked) (is_nothing used) p.0 in
    record {
      asked_in_range = λ units e. omega (arith, nothing_is asked q.0 units e);
      asked_not_zero = λ there. absurd cc;
      asked_seconds_in_range = λ time units e. omega (arith, nothing_is asked q.0 units e);
      used_in_range = λ units e. omega (arith, nothing_is used q.1 units e);
      unrated_asks_nothing = λ none. nothing_is asked q.0;
      unrated_uses_nothing = λ none. nothing_is used q.1;
      unrated_costs_nothing = λ none. unrated_is tariff p.1;
    }
service_right asked used (Some kind) tariff h =
    let p = and_parts (is_asked kind asked) (is_used used) h in
    record {
      asked_in_range = λ units e. omega (arith, asked_is kind asked p.0 units e, most_few kind);
      asked_not_zero = λ there units e. (asked_is kind asked p.0 units e).0;
      asked_seconds_in_range = λ time units e. subst (λ (k : UnitKind). units ≤ most_asked k) (some_is kind unit.Time time) (asked_is kind asked p.0 units e).1;
      used_in_range = used_is used p.1;
      unrated_asks_nothing = λ none. absurd cc;
      unrated_uses_nothing = λ none. absurd cc;
      unrated_costs_nothing = λ none. absurd cc;
    }

service_passes : (asked used : Option ℕ) (kind : Option UnitKind) (tariff : Option TariffView)
    → IsService asked used kind tariff → is_service asked used kind (is_some tariff) ≡ true
unfolding is_service
service_passes asked used None tariff is =
    and_from (is_nothing asked && is_nothing used) (not (is_some tariff))
    (and_from (is_nothing asked) (is_nothing used) (nothing_from asked (is.unrated_asks_nothing refl)) (nothing_from used (is.unrated_uses_nothing refl)))
    (unrated_from tariff (is.unrated_costs_nothing refl))
service_passes asked used (Some kind) tariff is =
    and_from (is_asked kind asked) (is_used used)
    (asked_from kind asked (λ units e. (is.asked_not_zero refl units e, most_from kind units (is.asked_in_range units e) (λ time. is.asked_seconds_in_range time units e))))
    (used_from used is.used_in_range)

-- ---- a service

parts_octets : ServiceParts → List ℕ
parts_octets p =
    one (form_octet p.0.0.0.0.0) ++ optional u32_octets p.0.0.0.0.1 ++ ids_octets p.0.0.0.1
    ++ optional u64_octets p.0.0.1 ++ optional u64_octets p.0.1 ++ (one (unit_octet p.1.0) ++ optional tariff_octets p.1.1)

abbrev There : (ℕ → Type 0) → Option ℕ → Type 0
There Is number = IfSome number Is

AreParts : ServiceParts → Type 0
AreParts p =
    ((((Any p.0.0.0.0.0 × There Is32 p.0.0.0.0.1) × AreIds p.0.0.0.1) × There Is64 p.0.0.1) × There Is64 p.0.1)
    × (Any p.1.0 × IfSome p.1.1 IsTariff)

parts_read : Reads parts_octets AreParts service_parts_in
unfolding parts_octets AreParts
parts_read =
    let u32 = optional_reads u32_octets Is32 (number_in w32) u32_reads in
    let u64 = optional_reads u64_octets Is64 (number_in w64) u64_reads in
    let tariff = optional_reads tariff_octets IsTariff tariff_in tariff_reads in
    both_reads _ _ _ _ _ _
    (both_reads _ _ _ _ _ _ (both_reads _ _ _ _ _ _ (both_reads _ _ _ _ _ _ (both_reads _ _ _ _ _ _ form_reads u32) ids_reads) u64) u64)
    (both_reads _ _ _ _ _ _ unit_reads tariff)

amount_fits : (amount : Option ℕ) → ForSome amount (λ units. units ≤ MAX_UNITS) → There Is64 amount
amount_fits None is = tt
amount_fits (Some n) is = omega (arith, is n refl)

service_makes : Makes parts_octets AreParts service_octets WithinService service_from
unfolding parts_octets AreParts service_octets
service_makes = record {
  made = λ p found is e.
      let made : ServiceView = record {
        group = p.0.0.0.0.1;
        ids = p.0.0.0.1;
        form = p.0.0.0.0.0;
        asked = p.0.0.1;
        used = p.0.1;
        unit = p.1.0;
        tariff = p.1.1;
      } in
      let q = passed (is_service p.0.0.1 p.0.1 p.1.0 (is_some p.1.1)) made found e in
      subst (λ (v : ServiceView). (parts_octets p ≡ service_octets v) × WithinService v) q.1 (
        refl,
        record {
          group = is.0.0.0.0.1;
          ids = is.0.0.0.1.0;
          few_ids = is.0.0.0.1.1;
          tariff = is.1.1;
          amounts = service_right p.0.0.1 p.0.1 p.1.0 p.1.1 q.0;
        },
      );
  from = λ s is. (
    (((((s.form, s.group), s.ids), s.asked), s.used), (s.unit, s.tariff)),
    (((((tt, is.group), (is.ids, is.few_ids)), amount_fits s.asked is.amounts.asked_in_range), amount_fits s.used is.amounts.used_in_range), (tt, is.tariff)),
    passes (is_service s.asked s.used s.unit (is_some s.tariff)) s (service_passes s.asked s.used s.unit s.tariff is.amounts),
    refl,
  );
}

pub service_reads : Reads service_octets WithinService service_in
unfolding service_in
service_reads = checked_reads parts_octets AreParts service_octets WithinService service_from service_parts_in service_makes parts_read

-- ---- services

abbrev pub AreServices : List ServiceView → Type 0
AreServices services = All WithinService services × (are_services services ≡ true)

few_services : (services : List ServiceView) → are_services services ≡ true → length services < 256
few_services services h = grind (arith, and_parts, leb-true)

pub services_read : Reads services_octets AreServices services_in
unfolding services_in services_octets
services_read = checked_reads {A = List ServiceView} (λ services. one (length services) ++ flat_map service_octets services) (AreCounted 256 WithinService)
    services_octets AreServices (λ services. cond (are_services services) (Some services) None) (counted_in octet_in service_in)
    (record {
      made = λ services found is e.
          let p = passed (are_services services) services found e in
          subst (λ (v : List ServiceView). (one (length services) ++ flat_map service_octets services ≡ services_octets v) × AreServices v) p.1
          (refl, (All-from_recursion WithinService services is.each, p.0));
      from = λ services is.
          (services, record { few = few_services services is.1; each = to_recursion WithinService services is.0 }, passes (are_services services) services is.1, refl);
    })
    (counted_reads one 256 octet_in service_octets WithinService service_in octet_reads service_reads)
