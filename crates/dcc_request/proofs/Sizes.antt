-- What refusals show has few octets where the message has.
use Rattle.std.proofs.Common.{ℕ, zero, suc, ◌+◌, ◌-◌, ◌%◌, ◌≤◌, Bool, List, [], ◌∷◌, length, Option, Some, None, Result, Ok, Err, arith, inl, inr}
use Rattle.std.specs.Prelude.{find, filter, slice_get, option_map, ◌==◌, bit_and, if◌then◌else◌, IfOk, IfErr}
use Rattle.std.specs.Option.{option_and_then}
use Rattle.std.specs.List.{AllByRecursion, sum_by}
use Rattle.std.proofs.lemmas.Bool.{cases_Bool}
use Rattle.dcc_avp.specs.Spelling.{AvpView, has_code, has_vendor, header_len, padded_len}
use Rattle.dcc_avp.specs.Reading.{FaultView, Short, LengthBelowHeader, LengthPastEnd, avps_of}
use Rattle.dcc_avp.specs.Dictionary.{format_of}
use Rattle.dcc_avp.specs.declared.dictionary.DataFormat.{DataFormat}
use Rattle.dcc_avp.specs.declared.dictionary.DataFormat.TheVariants as formats
use Rattle.dcc_avp.specs.declared.codes.TheConstants.{MULTIPLE_SERVICES_CREDIT_CONTROL}
use Rattle.dcc_message.specs.declared.length.TheConstants.{MAX_LENGTH}
use Rattle.dcc_request.specs.declared.cause.Cause.{Cause}
use Rattle.dcc_request.specs.declared.cause.Cause.TheVariants.{AvpUnsupported, MissingAvp, AvpOccursTooManyTimes}
use Rattle.dcc_request.specs.declared.checks.Check.{Check}
use Rattle.dcc_request.specs.declared.checks.Check.TheVariants as checks
use Rattle.dcc_request.specs.declared.command.Command.{Command}
use Rattle.dcc_request.specs.declared.table.Times.{Times}
use Rattle.dcc_request.specs.Refusals.{Refusal, refusal, or_else, first_some, ◌>>=◌, each, clear}
use Rattle.dcc_request.specs.Layout.{zeros_of, least_data, broken_avp, unread}
use Rattle.dcc_request.specs.Tables.{Table, table_of, most_times}
use Rattle.dcc_request.specs.Commands.{table_for}
use Rattle.dcc_request.specs.Walk.{ListView, GroupView, in_group, group_list, list_of, is_units, is_walked, inside_of, group_of, groups_of}
use Rattle.dcc_request.specs.Checks.{is_unknown, unknown_in, is_over, beyond, row_beyond, too_many_in, is_lacking, missing_flags, missing_avp, missing_in, fault_in, fault_of, fault_in_group, fault_anywhere, first_fault, checked}
use Rattle.dcc_request.specs.Sizes.{AreWithin, IsListWithin, IsGroupWithin}
use Rattle.dcc_request.proofs.Lists.{list_within, each_within}

-- a refusal shows so many octets at most
abbrev pub Shows : ℕ → Refusal → Type 0
Shows most refusal = sum_by padded_len refusal.failed ≤ most

-- if there is one
abbrev pub MayShow : ℕ → Option Refusal → Type 0
MayShow most None = Unit {0}
MayShow most (Some refusal) = Shows most refusal

-- what is found satisfies P, or its refusal shows so many at most
abbrev pub Bounded : {X : Type 0} → ℕ → (X → Type 0) → Result X Refusal → Type 0
Bounded most P (Ok x) = P x
Bounded most P (Err refusal) = Shows most refusal

pub bind : {X Y : Type 0} (most : ℕ) (P : X → Type 0) (Q : Y → Type 0) (r : Result X Refusal) (f : X → Result Y Refusal) → Bounded most P r →
    ((x : X) → P x → Bounded most Q (f x)) → Bounded most Q (r >>= f)
bind most P Q (Ok x) f here next = next x here
bind most P Q (Err refusal) f here next = here

each_bounded : {X Y : Type 0} (most : ℕ) (P : X → Type 0) (Q : Y → Type 0) (f : X → Result Y Refusal) (xs : List X) → ((x : X) → P x → Bounded most Q (f x)) →
    AllByRecursion P xs → Bounded most (AllByRecursion Q) (each f xs)
each_bounded most P Q f [] good all = tt
each_bounded most P Q f (x ∷ xs) good all =
    bind most Q (AllByRecursion Q) (f x) (λ first. each f xs >>= λ others. Ok (first ∷ others)) (good x all.0)
    (λ first fine. bind most (AllByRecursion Q) (AllByRecursion Q) (each f xs) (λ others. Ok (first ∷ others)) (each_bounded most P Q f xs good all.1)
    (λ others rest. (fine, rest)))

pub clear_bounded : (most : ℕ) (found : Option Refusal) → MayShow most found → Bounded most (λ (x : Unit {0}). Unit {0}) (clear found)
clear_bounded most None h = tt
clear_bounded most (Some refusal) h = h

-- ---- what is found in a list

one_shown : (n most : ℕ) → n ≤ most → n + 0 ≤ most
one_shown n most h = omega arith

pub shows_one : (most : ℕ) (cause : Cause) (avp : AvpView) → padded_len avp ≤ most → Shows most (refusal cause avp)
shows_one most cause avp h = omega arith

abbrev pub IsFew : ℕ → Option AvpView → Type 0
IsFew most None = Unit {0}
IsFew most (Some avp) = padded_len avp ≤ most

pub shows_found : (most : ℕ) (cause : Cause) (found : Option AvpView) → IsFew most found → MayShow most (option_map (refusal cause) found)
shows_found most cause None h = tt
shows_found most cause (Some avp) h = shows_one most cause avp h

pub found_within : (most : ℕ) (test : AvpView → Bool) (avps : List AvpView) → AreWithin most avps → IsFew most (find test avps)
found_within most test [] h = tt
found_within most test (avp ∷ avps) h =
    elim (cases_Bool (test avp)) [
      | inl here ↦ rw here h.0
      | inr other ↦ rw other (found_within most test avps h.1)
    ]

filter_within : {X : Type 0} (P : X → Type 0) (test : X → Bool) (xs : List X) → AllByRecursion P xs → AllByRecursion P (filter test xs)
filter_within P test [] h = tt
filter_within P test (x ∷ xs) h =
    elim (cases_Bool (test x)) [
      | inl here ↦ rw here (h.0, filter_within P test xs h.1)
      | inr other ↦ rw other (filter_within P test xs h.1)
    ]

get_within : (most : ℕ) (avps : List AvpView) (i : ℕ) → AreWithin most avps → IsFew most (slice_get avps i)
get_within most [] i h = tt
get_within most (avp ∷ avps) zero h = h.0
get_within most (avp ∷ avps) (suc i) h = get_within most avps i h.1

unknown_shows : (most : ℕ) (avps : List AvpView) → AreWithin most avps → MayShow most (unknown_in avps)
unknown_shows most avps h = shows_found most AvpUnsupported (find is_unknown avps) (found_within most is_unknown avps h)

beyond_within : (most : ℕ) (avps : List AvpView) (row : ℕ × Times) (times : Option ℕ) → AreWithin most avps → IsFew most (option_and_then (beyond avps row.0) times)
beyond_within most avps row None h = tt
beyond_within most avps row (Some n) h =
    get_within most (filter (has_code row.0) avps) n (filter_within (λ avp. padded_len avp ≤ most) (has_code row.0) avps h)

row_within : (most : ℕ) (avps : List AvpView) (row : Option (ℕ × Times)) → AreWithin most avps → IsFew most (option_and_then (row_beyond avps) row)
row_within most avps None h = tt
row_within most avps (Some row) h = beyond_within most avps row (most_times row.1) h

too_many_shows : (most : ℕ) (table : Table) (avps : List AvpView) → AreWithin most avps → MayShow most (too_many_in table avps)
too_many_shows most table avps h =
    shows_found most AvpOccursTooManyTimes (option_and_then (row_beyond avps) (find (is_over avps) table)) (row_within most avps (find (is_over avps) table) h)

-- ---- AVPs that stand for others

least_few : (format : DataFormat) → length (zeros_of (Some format)) ≤ 8
least_few formats.OctetString = omega arith
least_few formats.Utf8String = omega arith
least_few formats.DiameterIdentity = omega arith
least_few formats.Grouped = omega arith
least_few formats.Address = omega arith
least_few formats.Time = omega arith
least_few formats.Unsigned32 = omega arith
least_few formats.Unsigned64 = omega arith
least_few formats.Integer32 = omega arith
least_few formats.Integer64 = omega arith
least_few formats.Enumerated = omega arith

zeros_few : (format : Option DataFormat) → length (zeros_of format) ≤ 8
zeros_few None = omega arith
zeros_few (Some format) = least_few format

header_few : (flags : ℕ) → header_len flags ≤ 12
header_few flags =
    elim (cases_Bool (has_vendor flags)) [
      | inl vendor ↦ rw vendor (omega arith)
      | inr own ↦ rw own (omega arith)
    ]

-- a header and up to eight octets of data
small : (most header size : ℕ) → header ≤ 12 → size ≤ 8 → 24 ≤ most → (header + size) + (4 - (header + size) % 4) % 4 ≤ most
small most header size a b c = omega arith

pub stands_few : (most code flags : ℕ) (value : List ℕ) → 24 ≤ most → length value ≤ 8 → padded_len (record { code = code; flags = flags; vendor = None; value = value }) ≤ most
stands_few most code flags value enough few = small most (header_len flags) (length value) (header_few flags) few enough

missing_few : (most code : ℕ) → 24 ≤ most → padded_len (missing_avp code) ≤ most
missing_few most code enough = stands_few most code (missing_flags code) (least_data code) enough (zeros_few (format_of code))

row_shows : (most : ℕ) (row : Option (ℕ × Times)) → 24 ≤ most → MayShow most (option_map (λ row. refusal MissingAvp (missing_avp row.0)) row)
row_shows most None enough = tt
row_shows most (Some row) enough = shows_one most MissingAvp (missing_avp row.0) (missing_few most row.0 enough)

missing_shows : (most : ℕ) (table : Table) (avps : List AvpView) → 24 ≤ most → MayShow most (missing_in table avps)
missing_shows most table avps enough = row_shows most (find (is_lacking avps) table) enough

no_data : (flags code : ℕ) → length (if has_vendor flags then [] else least_data code) ≤ 8
no_data flags code =
    elim (cases_Bool (has_vendor flags)) [
      | inl vendor ↦ rw vendor (omega arith)
      | inr own ↦ rw own (zeros_few (format_of code))
    ]

broken_few : (most : ℕ) (fault : FaultView) → 24 ≤ most → padded_len (broken_avp fault) ≤ most
broken_few most (Short code flags) enough = stands_few most code (bit_and flags 0x7f) [] enough (omega arith)
broken_few most (LengthBelowHeader code flags) enough =
    stands_few most code (bit_and flags 0x7f) (if has_vendor flags then [] else least_data code) enough (no_data flags code)
broken_few most (LengthPastEnd code flags) enough =
    stands_few most code (bit_and flags 0x7f) (if has_vendor flags then [] else least_data code) enough (no_data flags code)

pub unread_shows : (most : ℕ) (fault : FaultView) → 24 ≤ most → Shows most (unread fault)
unread_shows most fault enough = let few = broken_few most fault enough in omega arith

-- ---- the walk

group_list_bounded : (most : ℕ) (group : AvpView) (read : Result (List AvpView) FaultView) → 24 ≤ most → IfOk read (AreWithin most) →
    Bounded most (IsListWithin most) (group_list group read)
group_list_bounded most group (Ok avps) enough h = h
group_list_bounded most group (Err fault) enough h = unread_shows most (in_group group fault) enough

-- the data of a group has fewer octets than the group
inner : (header size most : ℕ) → 8 ≤ header → (header + size) + (4 - (header + size) % 4) % 4 ≤ most → size + 3 ≤ most
inner header size most a b = omega arith

header_least : (flags : ℕ) → 8 ≤ header_len flags
header_least flags =
    elim (cases_Bool (has_vendor flags)) [
      | inl vendor ↦ rw vendor (omega arith)
      | inr own ↦ rw own (omega arith)
    ]

list_bounded : (most : ℕ) → 24 ≤ most → (group : AvpView) → padded_len group ≤ most → Bounded most (IsListWithin most) (list_of group)
unfolding list_of
list_bounded most enough group few =
    group_list_bounded most group (avps_of group.value) enough
    (list_within most group.value (inner (header_len group.flags) (length group.value) most (header_least group.flags) few))

inside_bounded : (most : ℕ) (list : ListView) → 24 ≤ most → IsListWithin most list → Bounded most (AllByRecursion (IsListWithin most)) (inside_of list)
inside_bounded most list enough h =
    elim (cases_Bool (list.code == MULTIPLE_SERVICES_CREDIT_CONTROL)) [
      | inl here ↦ rw here (each_bounded most (λ avp. padded_len avp ≤ most) (IsListWithin most) list_of (filter is_units list.avps) (list_bounded most enough)
          (filter_within (λ avp. padded_len avp ≤ most) is_units list.avps h))
      | inr other ↦ rw other tt
    ]

group_bounded : (most : ℕ) → 24 ≤ most → (avp : AvpView) → padded_len avp ≤ most → Bounded most (IsGroupWithin most) (group_of avp)
unfolding group_of
group_bounded most enough avp few =
    bind most (IsListWithin most) (IsGroupWithin most) (list_of avp)
    (λ list. inside_of list >>= λ inside. Ok (record { list = list; inside = inside })) (list_bounded most enough avp few)
    (λ list fine. bind most (AllByRecursion (IsListWithin most)) (IsGroupWithin most) (inside_of list)
    (λ inside. Ok (record { list = list; inside = inside })) (inside_bounded most list enough fine) (λ inside rest. (fine, rest)))

groups_bounded : (most : ℕ) (command : Command) (avps : List AvpView) → 24 ≤ most → AreWithin most avps →
    Bounded most (AllByRecursion (IsGroupWithin most)) (groups_of command avps)
groups_bounded most command avps enough h =
    each_bounded most (λ avp. padded_len avp ≤ most) (IsGroupWithin most) group_of (filter (is_walked command) avps) (group_bounded most enough)
    (filter_within (λ avp. padded_len avp ≤ most) (is_walked command) avps h)

-- ---- the checks

in_shows : (most : ℕ) (check : Check) (table : Table) (avps : List AvpView) → 24 ≤ most → AreWithin most avps → MayShow most (fault_in check table avps)
unfolding fault_in
in_shows most checks.Unknown table avps enough h = unknown_shows most avps h
in_shows most checks.TooMany table avps enough h = too_many_shows most table avps h
in_shows most checks.Missing table avps enough h = missing_shows most table avps enough

or_shows : (most : ℕ) (one other : Option Refusal) → MayShow most one → MayShow most other → MayShow most (or_else one other)
or_shows most None other a b = b
or_shows most (Some refusal) other a b = a

pub some_shows : {X : Type 0} (most : ℕ) (P : X → Type 0) (f : X → Option Refusal) (xs : List X) → ((x : X) → P x → MayShow most (f x)) →
    AllByRecursion P xs → MayShow most (first_some f xs)
some_shows most P f [] good h = tt
some_shows most P f (x ∷ xs) good h = or_shows most (f x) (first_some f xs) (good x h.0) (some_shows most P f xs good h.1)

group_shows : (most : ℕ) (check : Check) (group : GroupView) → 24 ≤ most → IsGroupWithin most group → MayShow most (fault_in_group check group)
group_shows most check group enough h =
    or_shows most (fault_of check group.list) (first_some (fault_of check) group.inside)
    (in_shows most check (table_of group.list.code) group.list.avps enough h.0)
    (some_shows most (IsListWithin most) (fault_of check) group.inside (λ list fine. in_shows most check (table_of list.code) list.avps enough fine) h.1)

anywhere_shows : (most : ℕ) (table : Table) (avps : List AvpView) (groups : List GroupView) (check : Check) → 24 ≤ most → AreWithin most avps →
    AllByRecursion (IsGroupWithin most) groups → MayShow most (fault_anywhere table avps groups check)
unfolding fault_anywhere
anywhere_shows most table avps groups check enough h inside =
    or_shows most (fault_in check table avps) (first_some (fault_in_group check) groups) (in_shows most check table avps enough h)
    (some_shows most (IsGroupWithin most) (fault_in_group check) groups (λ group fine. group_shows most check group enough fine) inside)

fault_shows : (most : ℕ) (table : Table) (avps : List AvpView) (groups : List GroupView) → 24 ≤ most → AreWithin most avps →
    AllByRecursion (IsGroupWithin most) groups → MayShow most (first_fault table avps groups)
fault_shows most table avps groups enough h inside =
    some_shows most (λ (check : Check). Unit {0}) (fault_anywhere table avps groups) (checks.Unknown ∷ checks.TooMany ∷ checks.Missing ∷ [])
    (λ check fine. anywhere_shows most table avps groups check enough h inside) (tt, (tt, (tt, tt)))

pub checked_bounded : (most : ℕ) (command : Command) (avps : List AvpView) → 24 ≤ most → AreWithin most avps →
    Bounded most (AllByRecursion (IsGroupWithin most)) (checked command avps)
unfolding checked
checked_bounded most command avps enough h =
    bind most (AllByRecursion (IsGroupWithin most)) (AllByRecursion (IsGroupWithin most)) (groups_of command avps)
    (λ groups. clear (first_fault (table_for command avps) avps groups) >>= λ complete. Ok groups) (groups_bounded most command avps enough h)
    (λ groups inside. bind most (λ (x : Unit {0}). Unit {0}) (AllByRecursion (IsGroupWithin most)) (clear (first_fault (table_for command avps) avps groups))
    (λ complete. Ok groups)
    (clear_bounded most (first_fault (table_for command avps) avps groups) (fault_shows most (table_for command avps) avps groups enough h inside))
    (λ complete fine. inside))

-- ---- as the law says it

if_err : {X : Type 0} (most : ℕ) (P : X → Type 0) (r : Result X Refusal) → Bounded most P r → IfErr r (Shows most)
if_err most P (Ok x) h = tt
if_err most P (Err refusal) h = h

if_ok : {X : Type 0} (most : ℕ) (P : X → Type 0) (r : Result X Refusal) → Bounded most P r → IfOk r P
if_ok most P (Ok x) h = h
if_ok most P (Err refusal) h = tt

pub refused_few : (command : Command) (avps : List AvpView) → sum_by padded_len avps ≤ MAX_LENGTH → IfErr (checked command avps) (λ refusal. sum_by padded_len refusal.failed ≤ MAX_LENGTH)
refused_few command avps h =
    if_err MAX_LENGTH (AllByRecursion (IsGroupWithin MAX_LENGTH)) (checked command avps) (checked_bounded MAX_LENGTH command avps (omega arith) (each_within MAX_LENGTH avps h))

pub groups_few : (command : Command) (avps : List AvpView) → sum_by padded_len avps ≤ MAX_LENGTH → IfOk (checked command avps) (AllByRecursion (IsGroupWithin MAX_LENGTH))
groups_few command avps h =
    if_ok MAX_LENGTH (AllByRecursion (IsGroupWithin MAX_LENGTH)) (checked command avps) (checked_bounded MAX_LENGTH command avps (omega arith) (each_within MAX_LENGTH avps h))

pub list_few : (avps : List AvpView) → sum_by padded_len avps ≤ MAX_LENGTH → AreWithin MAX_LENGTH avps
list_few avps h = each_within MAX_LENGTH avps h

pub unread_few : (fault : FaultView) → sum_by padded_len (unread fault).failed ≤ 24
unread_few fault = unread_shows 24 fault (omega arith)

pub missing_is_few : (code : ℕ) → padded_len (missing_avp code) ≤ 24
missing_is_few code = missing_few 24 code (omega arith)
