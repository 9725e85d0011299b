-- The plan of a text, a TOML document, or its first fault in the order of the keys.
use Rattle.std.specs.Prelude.{◌≡◌, ℕ, suc, ◌+◌, ◌-◌, ◌*◌, ◌^◌, Bool, true, ◌&&◌, ◌==◌, bytes_eq, nat_lt, nat_le, if◌then◌else◌}
use Rattle.std.specs.Prelude.{ℤ, pos, negsuc, int_le, int_div, unsigned_abs, List, [], ◌∷◌, length, codes, slice_index, Option, Some}
use Rattle.std.specs.Prelude.{None, is_some, Result, Ok, Err, ok_or}
use Rattle.std.specs.Char.{is_ascii_digit}
use Rattle.std.specs.List.{list_all, list_any, zip}
use Rattle.std.specs.Net.Text.{ipv4_text}
use Rattle.toml.specs.Data.{Data, Members, Items, no_items, item, get_member, as_str, as_integer, as_array, as_table}
use Rattle.toml.specs.Parse.{parse_document}
use Rattle.jiff.specs.Words.{parse_timestamp}
use Rattle.dcc_tariff.specs.Terms.{TermsView}
use Rattle.dcc_tariff.specs.Plans.{PlanView, precedes, all_agree, is_of}
use Rattle.dcc_octets.specs.Names.{is_name}
use Rattle.dcc_tariff.specs.declared.limits.TheConstants.{LAST_SECOND, MAX_BLOCK_PRICE, MAX_HOLD, MAX_SHARDS, MAX_TABLES, MAX_UNITS}
use Rattle.dcc_tariff.specs.declared.tariff.UnitKind.{UnitKind}
use Rattle.dcc_tariff.specs.declared.tariff.UnitKind.TheVariants.{Octets, Time, Units}
use Rattle.dcc_tariff.specs.declared.version.Version.{Version}
use Rattle.dcc_tariff.specs.declared.fault.PlanFault.{PlanFault}
use Rattle.dcc_tariff.specs.declared.fault.PlanFault.TheVariants.{NotToml, MissingKey, Range, BadMoment, Memory}

-- the first fault decides
infixl 10 ◌>>=◌
abbrev pub ◌>>=◌ : {A B : Type 0} → Result A PlanFault → (A → Result B PlanFault) → Result B PlanFault
(Ok x) >>= f = f x
(Err fault) >>= f = Err fault

abbrev pub required : {A : Type 0} → Option A → Result A PlanFault
required found = ok_or found MissingKey

abbrev pub in_range : {A : Type 0} → Bool → A → Result A PlanFault
in_range fits x = if fits then Ok x else Err Range

-- the value of a key
abbrev pub found_at : List ℕ → Members → Result Data PlanFault
found_at key table = required (get_member key table)

-- the value of a key, if it has this type
abbrev pub value_at : {A : Type 0} → (Data → Option A) → List ℕ → Members → Result A PlanFault
value_at as_type key table = found_at key table >>= λ value. required (as_type value)

-- a text of visible characters
unfoldable pub identity_at : List ℕ → Members → Result (List ℕ) PlanFault
identity_at key table = value_at as_str key table >>= λ text. in_range (is_name text) text

-- a number within its limits
unfoldable pub integer_at : List ℕ → ℤ → ℤ → Members → Result ℤ PlanFault
integer_at key low high table = value_at as_integer key table >>= λ z. in_range (int_le low z && int_le z high) z

unfoldable pub number_at : List ℕ → ℕ → ℕ → Members → Result ℕ PlanFault
number_at key low high table = integer_at key (pos low) (pos high) table >>= λ z. Ok (unsigned_abs z)

-- the numbers that a text has before, between and after its dots
abbrev pub numbers_after : ℕ → List ℕ → List ℕ
numbers_after n [] = n ∷ []
numbers_after n (c ∷ cs) = if c == 46 then n ∷ numbers_after 0 cs else numbers_after (n * 10 + (c - 48)) cs

-- the numbers, if they are four below 256 and the text has them in decimal, without leading zeros, and with dots between them
abbrev pub if_spelled : List ℕ → List ℕ → Option (List ℕ)
if_spelled text numbers =
    if (length numbers == 4 && list_all (λ n. nat_lt n 256) numbers) && bytes_eq text (ipv4_text numbers) then Some numbers else None

unfoldable pub address_of : List ℕ → Option (List ℕ)
address_of text = if_spelled text (numbers_after 0 text)

unfoldable pub address_at : List ℕ → Members → Result (List ℕ) PlanFault
address_at key table = value_at as_str key table >>= λ text. ok_or (address_of text) Range

unfoldable pub unit_named : List ℕ → Option UnitKind
unit_named name =
    if bytes_eq name (codes "octets") then Some Octets
    else (if bytes_eq name (codes "time") then Some Time
    else (if bytes_eq name (codes "units") then Some Units else None))

unfoldable pub unit_at : List ℕ → Members → Result UnitKind PlanFault
unit_at key table = value_at as_str key table >>= λ name. ok_or (unit_named name) Range

-- any digit for a 0, and else the same character
abbrev pub fits_at : ℕ → ℕ → Bool
fits_at form c = if form == 48 then is_ascii_digit c else c == form

-- the text has the form's characters, and any digit for each 0 of the form
abbrev pub has_form : List ℕ → List ℕ → Bool
has_form form text =
    (length text == length form) && list_all (λ pair. fits_at pair.0 pair.1) (zip form text)

-- the whole seconds from 1970 to the instant, if they are within the limit
abbrev pub moment_of_instant : {E : Type 0} → Result ℤ E → Option ℕ
moment_of_instant (Ok nanos) =
    let seconds = int_div nanos (pos 1_000_000_000) in
    if int_le (pos 0) seconds && int_le seconds (pos LAST_SECOND) then Some (unsigned_abs seconds) else None
moment_of_instant (Err error) = None

-- a UTC date and time of the calendar, with seconds up to 59
unfoldable pub moment_of : List ℕ → Option ℕ
moment_of text =
    if has_form (codes "0000-00-00T00:00:00Z") text && nat_lt (slice_index text 17) 54
    then moment_of_instant (parse_timestamp text) else None

unfoldable pub moment_at : List ℕ → Members → Result ℕ PlanFault
moment_at key table = value_at as_str key table >>= λ text. ok_or (moment_of text) BadMoment

-- one version of a group's tariff
unfoldable pub version_of : Members → Result Version PlanFault
version_of table = do
  group ← number_at (codes "group") 0 (2 ^ 32 - 1) table
  unit ← unit_at (codes "unit") table
  from ← moment_at (codes "from") table
  price ← number_at (codes "price") 0 MAX_BLOCK_PRICE table
  block ← number_at (codes "block") 1 MAX_UNITS table
  Ok (record { group = group; unit = unit; from = from; tariff = record { price = price; block = block } })

abbrev pub version_of_value : Data → Result Version PlanFault
version_of_value value = required (as_table value) >>= version_of

-- the version in its place among those that are in order
abbrev pub place : Version → List Version → List Version
place version [] = version ∷ []
place version (other ∷ others) =
    if precedes other version then other ∷ place version others else version ∷ other ∷ others

-- the versions of the tables, one after another, each put in its place among those so far
unfoldable pub versions_onto : List Version → Items → Result (List Version) PlanFault
versions_onto placed no_items = Ok placed
versions_onto placed (item value values) =
    version_of_value value >>= λ version. versions_onto (place version placed) values

abbrev pub are_tables : Items → Bool
are_tables no_items = true
are_tables (item value values) = is_some (as_table value) && are_tables values

abbrev pub count : Items → ℕ
count no_items = 0
count (item value values) = suc (count values)

-- from 1 to 1,000 tables
unfoldable pub tables_at : List ℕ → Members → Result Items PlanFault
tables_at key table = value_at as_array key table >>= λ tables.
    if are_tables tables then in_range (nat_le 1 (count tables) && nat_le (count tables) MAX_TABLES) tables else Err MissingKey

unfoldable pub terms_of : Members → Result TermsView PlanFault
terms_of table = do
  validity ← number_at (codes "validity") 1 MAX_HOLD table
  hold ← number_at (codes "hold") 1 MAX_HOLD table
  currency ← number_at (codes "currency") 0 999 table
  exponent ← integer_at (codes "exponent") (negsuc 8) (pos 9) table
  Ok (record { validity = validity; hold = hold; currency = currency; exponent = exponent })

-- the keys in the order in which their faults count; last, that the versions agree and that the default group has one
unfoldable pub plan_of : Members → Result PlanView PlanFault
plan_of table = do
  host ← identity_at (codes "host") table
  realm ← identity_at (codes "realm") table
  address ← address_at (codes "address") table
  shards ← number_at (codes "shards") 1 MAX_SHARDS table
  default_group ← number_at (codes "default_group") 0 (2 ^ 32 - 1) table
  quantum ← number_at (codes "quantum") 1 MAX_UNITS table
  terms ← terms_of table
  tables ← tables_at (codes "tariff") table
  versions ← versions_onto [] tables
  in_range (all_agree versions && list_any (is_of default_group) versions) (record {
    host = host;
    realm = realm;
    address = address;
    shards = shards;
    default_group = default_group;
    quantum = quantum;
    terms = terms;
    versions = versions;
  })

-- the plan of a file's text, or its first fault
unfoldable pub plan_of_text : List ℕ → Result PlanView PlanFault
plan_of_text text = ok_or (parse_document text) NotToml >>= plan_of

-- the result of reading, seen so, is the meaning of the text, unless memory ran out
abbrev pub GivesBy : {X Y : Type 0} → (X → Y) → Result X PlanFault → Result Y PlanFault → Type 0
GivesBy seen (Ok x) meant = meant ≡ Ok (seen x)
GivesBy seen (Err Memory) meant = Unit {0}
GivesBy seen (Err NotToml) meant = meant ≡ Err NotToml
GivesBy seen (Err MissingKey) meant = meant ≡ Err MissingKey
GivesBy seen (Err Range) meant = meant ≡ Err Range
GivesBy seen (Err BadMoment) meant = meant ≡ Err BadMoment

abbrev pub Gives : {X : Type 0} → Result X PlanFault → Result X PlanFault → Type 0
Gives read meant = GivesBy (λ x. x) read meant
