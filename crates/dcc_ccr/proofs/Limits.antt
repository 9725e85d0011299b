-- A request that was read has no more services than there may be, and no two of one key.
use Rattle.std.proofs.Common.{◌≡◌, ℕ, suc, ◌+◌, ◌<◌, ◌≤◌, Bool, true, false, List, [], ◌∷◌, ◌++◌, length, Option, Some, None, Result, Ok, Err, refl, sym, ap, ◌∙◌, find, if◌then◌else◌, arith, tests, length-append, nat_lt, take, ◌&&◌, ◌||◌, nat_le}
use Rattle.std.specs.Prelude.{filter, option_map, count_by, is_none}
use Rattle.std.specs.Option.{option_and_then, option_map_or}
use Rattle.std.proofs.lemmas.List.Sums.{length-filter}
use Rattle.std.proofs.lemmas.Option.{slice_get-get_or}
use Rattle.dcc_avp.specs.Spelling.{AvpView, has_code}
use Rattle.dcc_avp.specs.declared.codes.TheConstants.{MULTIPLE_SERVICES_CREDIT_CONTROL}
use Rattle.dcc_request.specs.declared.cause.Cause.TheVariants.{AvpOccursTooManyTimes}
use Rattle.dcc_request.specs.declared.checks.Check.TheVariants.{Unknown, TooMany, Missing}
use Rattle.dcc_request.specs.declared.command.Command.TheVariants.{CreditControl}
use Rattle.dcc_request.specs.declared.table.Times.{Times}
use Rattle.dcc_request.specs.declared.table.Times.TheVariants.{AtMost}
use Rattle.dcc_request.specs.declared.table.TheConstants.{MAX_SERVICES, EVENT, SESSION, REPORT}
use Rattle.dcc_request.specs.Refusals.{Refusal, refusal, or_else, first_some, ◌>>=◌, each, clear}
use Rattle.dcc_request.specs.Tables.{Table, most_times}
use Rattle.dcc_request.specs.Commands.{is_event, is_report, table_for}
use Rattle.dcc_request.specs.Walk.{GroupView, groups_of}
use Rattle.dcc_request.specs.Checks.{is_over, beyond, row_beyond, too_many_in, fault_in, fault_in_group, fault_anywhere, first_fault, checked}
use Rattle.dcc_ccr.specs.declared.request_type.RequestType.{RequestType}
use Rattle.dcc_ccr.specs.Types.{is_event as is_event_type}
use Rattle.dcc_ccr.specs.Services.{ServiceView, is_there, service_of, multi_of, services_of}
use Rattle.dcc_ccr.specs.Requests.{are_services}
use Rattle.dcc_ccr.specs.Contradictions.{same_key, place_of, repeated, both_at, units_beside, several_in_event, same_keys, contradiction}

-- ---- as many as were read
each_step : {A B : Type 0} (x : A) (xs : List A) (r : Result B Refusal) (rest : Result (List B) Refusal) (ys : List B)
    → ((zs : List B) → rest ≡ Ok zs → length zs ≡ length xs)
    → (r >>= λ first. rest >>= λ others. Ok (first ∷ others)) ≡ Ok ys → length ys ≡ length (x ∷ xs)
each_step x xs (Ok y) (Ok others) ys ih e =
    let s : y ∷ others ≡ ys = cc in
    sym (ap length s) ∙ ap suc (ih others refl)
each_step x xs (Ok y) (Err refusal) ys ih e = absurd cc
each_step x xs (Err refusal) rest ys ih e = absurd cc

pub each_length : {A B : Type 0} (f : A → Result B Refusal) (xs : List A) (ys : List B) → each f xs ≡ Ok ys → length ys ≡ length xs
each_length f [] ys e =
    let s : [] ≡ ys = cc in
    sym (ap length s)
each_length f (x ∷ xs) ys e = each_step x xs (f x) (each f xs) ys (each_length f xs) e

pub multi_length : (avps : List AvpView) (services : List ServiceView) → multi_of avps ≡ Ok services
    → length services ≡ length (filter (has_code MULTIPLE_SERVICES_CREDIT_CONTROL) avps)
unfolding multi_of
multi_length avps services e = each_length service_of (filter (has_code MULTIPLE_SERVICES_CREDIT_CONTROL) avps) services e

-- ---- places are those of services
place_step : (b : Bool) (rest : Option ℕ) (from i n : ℕ) → (rest ≡ Some i → i < (from + 1) + n)
    → (if b then Some from else rest) ≡ Some i → i < from + suc n
place_step true rest from i n ih e =
    let s : from ≡ i = cc in
    rw (sym s) (search (arith))
place_step false rest from i n ih e =
    let below = ih e in
    search (arith)

place_within : (service : ServiceView) (others : List ServiceView) (from i : ℕ) → place_of service others from ≡ Some i → i < from + length others
place_within service [] from i e = absurd cc
place_within service (other ∷ others) from i e =
    place_step (same_key other service) (place_of service others (from + 1)) from i (length others) (place_within service others (from + 1) i) e

repeat_step : (p : Option ℕ) (rest : Option (ℕ × ℕ)) (n total i j : ℕ) → ((k : ℕ) → p ≡ Some k → k < n) → n < total
    → (rest ≡ Some (i, j) → (i < j) × (j < total))
    → or_else (option_map (λ first. (first, n)) p) rest ≡ Some (i, j) → (i < j) × (j < total)
repeat_step (Some k) rest n total i j first below ih e =
    let same : (k, n) ≡ (i, j) = cc in
    let s : k ≡ i = ap (λ (p : ℕ × ℕ). p.0) same in
    let t : n ≡ j = ap (λ (p : ℕ × ℕ). p.1) same in
    (rw (sym s, sym t) (first k refl), rw (sym t) below)
repeat_step None rest n total i j first below ih e = ih e

pub repeated_within : (before after : List ServiceView) (i j : ℕ) → repeated before after ≡ Some (i, j)
    → (i < j) × (j < length before + length after)
repeated_within before [] i j e = absurd cc
repeated_within before (service ∷ after) i j e =
    let longer : length (before ++ service ∷ []) ≡ length before + 1 = length-append before (service ∷ []) in
    repeat_step (place_of service before 0) (repeated (before ++ service ∷ []) after) (length before) (length before + suc (length after)) i j
    (λ k p. let below = place_within service before 0 k p in search (arith)) (search (arith))
    (λ r. let both = repeated_within (before ++ service ∷ []) after i j r in let a = both.0 in let b = both.1 in (search (arith), search (arith))) e

-- ---- both services of a pair are there
abbrev no_avp : AvpView
no_avp = record { code = 0; flags = 0; vendor = None; value = [] }

pub both_there : (avps : List AvpView) (i j : ℕ) → i < length (filter (has_code MULTIPLE_SERVICES_CREDIT_CONTROL) avps)
    → j < length (filter (has_code MULTIPLE_SERVICES_CREDIT_CONTROL) avps) → both_at avps i j ≡ None → ⊥
unfolding both_at
both_there avps i j first second e =
    let a = slice_get-get_or (filter (has_code MULTIPLE_SERVICES_CREDIT_CONTROL) avps) i no_avp first in
    let b = slice_get-get_or (filter (has_code MULTIPLE_SERVICES_CREDIT_CONTROL) avps) j no_avp second in
    absurd cc

pub last_none : {X : Type 0} (a b : Option X) → or_else a b ≡ None → b ≡ None
last_none None b e = e
last_none (Some x) b e = absurd cc

pair_none : (avps : List AvpView) (r : Option (ℕ × ℕ)) (n : ℕ) → n ≡ length (filter (has_code MULTIPLE_SERVICES_CREDIT_CONTROL) avps)
    → ((i j : ℕ) → r ≡ Some (i, j) → (i < n) × (j < n))
    → option_and_then (λ places. both_at avps places.0 places.1) r ≡ None → r ≡ None
pair_none avps None n same within e = refl
pair_none avps (Some places) n same within e =
    let both = within places.0 places.1 refl in
    absurd (both_there avps places.0 places.1 (rw (sym same) both.0) (rw (sym same) both.1) e)

-- where nothing contradicts, no two services have one key
pub distinct : (type : RequestType) (services : List ServiceView) (avps : List AvpView)
    → length services ≡ length (filter (has_code MULTIPLE_SERVICES_CREDIT_CONTROL) avps)
    → contradiction type services avps ≡ None → repeated [] services ≡ None
unfolding contradiction
distinct type services avps same e =
    let later = last_none (units_beside avps) (or_else (several_in_event type avps) (same_keys services avps)) e in
    let keys = last_none (several_in_event type avps) (same_keys services avps) later in
    pair_none avps (repeated [] services) (length services) same (λ i j r. let both = repeated_within [] services i j r in let a = both.0 in let b = both.1 in (search (arith), search (arith))) keys

-- ---- no more than there may be
too_many_step : (o : Option Refusal) (groups given : List GroupView) → (clear o >>= λ complete. Ok groups) ≡ Ok given → o ≡ None
too_many_step None groups given e = refl
too_many_step (Some refusal) groups given e = absurd cc

pub checked_step : (read : Result (List GroupView) Refusal) (fault : List GroupView → Option Refusal) (given : List GroupView)
    → (read >>= λ groups. clear (fault groups) >>= λ complete. Ok groups) ≡ Ok given → (groups : List GroupView) × (fault groups ≡ None)
checked_step (Ok groups) fault given e = (groups, too_many_step (fault groups) groups given e)
checked_step (Err refusal) fault given e = absurd cc

pub first_none : {X : Type 0} (a b : Option X) → or_else a b ≡ None → a ≡ None
first_none None b e = refl
first_none (Some x) b e = absurd cc

pub map_none : {X Y : Type 0} (f : X → Y) (o : Option X) → option_map f o ≡ None → o ≡ None
map_none f None e = refl
map_none f (Some x) e = absurd cc

-- a row of which there are too many has an AVP beyond the most
over_step : (avps : List AvpView) (code : ℕ) (most : Option ℕ) → option_map_or (λ n. nat_lt n (count_by (has_code code) avps)) most false ≡ true
    → option_and_then (beyond avps code) most ≡ None → ⊥
over_step avps code None over e = absurd cc
over_step avps code (Some most) over e =
    let counted = length-filter (has_code code) avps in
    let below : most < length (filter (has_code code) avps) = rw counted (search (arith, tests)) in
    let there = slice_get-get_or (filter (has_code code) avps) most no_avp below in
    absurd cc

none_step : (avps : List AvpView) (row : ℕ × Times) (table : Table) (b : Bool) → is_over avps row ≡ b
    → option_and_then (row_beyond avps) (if b then Some row else find (is_over avps) table) ≡ None
    → (is_over avps row ≡ false) × (option_and_then (row_beyond avps) (find (is_over avps) table) ≡ None)
none_step avps row table false over e = (over, e)
none_step avps row table true over e = absurd (over_step avps row.0 (most_times row.1) over e)

last_row : (avps : List AvpView) (front : Table) (row : ℕ × Times)
    → option_and_then (row_beyond avps) (find (is_over avps) (front ++ row ∷ [])) ≡ None → is_over avps row ≡ false
last_row avps [] row e = (none_step avps row [] (is_over avps row) refl e).0
last_row avps (other ∷ front) row e = last_row avps front row (none_step avps other (front ++ row ∷ []) (is_over avps other) refl e).1

abbrev services_row : ℕ × Times
services_row = (MULTIPLE_SERVICES_CREDIT_CONTROL, AtMost MAX_SERVICES)

in_table : (avps : List AvpView) (event report : Bool) → too_many_in (if event then EVENT else if report then REPORT else SESSION) avps ≡ None → is_over avps services_row ≡ false
in_table avps true report e = last_row avps (take 12 EVENT) services_row
    (map_none (refusal AvpOccursTooManyTimes) (option_and_then (row_beyond avps) (find (is_over avps) EVENT)) e)
in_table avps false true e = last_row avps (take 11 REPORT) services_row
    (map_none (refusal AvpOccursTooManyTimes) (option_and_then (row_beyond avps) (find (is_over avps) REPORT)) e)
in_table avps false false e = last_row avps (take 12 SESSION) services_row
    (map_none (refusal AvpOccursTooManyTimes) (option_and_then (row_beyond avps) (find (is_over avps) SESSION)) e)

none_too_many : (avps : List AvpView) (groups : List GroupView) → first_fault (table_for CreditControl avps) avps groups ≡ None
    → too_many_in (table_for CreditControl avps) avps ≡ None
unfolding fault_anywhere fault_in
none_too_many avps groups e =
    let table = table_for CreditControl avps in
    let later = last_none (fault_anywhere table avps groups Unknown) (first_some (fault_anywhere table avps groups) (TooMany ∷ Missing ∷ [])) e in
    let here = first_none (fault_anywhere table avps groups TooMany) (first_some (fault_anywhere table avps groups) (Missing ∷ [])) later in
    first_none (fault_in TooMany table avps) (first_some (fault_in_group TooMany) groups) here

-- where the lists were checked, there are no more services than there may be
pub few : (avps : List AvpView) (given : List GroupView) → checked CreditControl avps ≡ Ok given
    → length (filter (has_code MULTIPLE_SERVICES_CREDIT_CONTROL) avps) ≤ MAX_SERVICES
unfolding checked table_for
few avps given e =
    let found = checked_step (groups_of CreditControl avps) (first_fault (table_for CreditControl avps) avps) given e in
    let over = in_table avps (is_event avps) (is_report avps) (none_too_many avps found.0 found.1) in
    rw (length-filter (has_code MULTIPLE_SERVICES_CREDIT_CONTROL) avps) (search (arith, tests))

-- ---- the services of the request keep both limits
one_or_none : (b : Bool) (single : ServiceView) → are_services (if b then single ∷ [] else []) ≡ true
one_or_none true single = refl
one_or_none false single = refl

both_true : (a b : Bool) → a ≡ true → b ≡ true → (a && b) ≡ true
both_true true true e f = refl
both_true true false e f = absurd cc
both_true false b e f = absurd cc

kept : (type : RequestType) (single : ServiceView) (multi : List ServiceView) → length multi ≤ MAX_SERVICES → repeated [] multi ≡ None
    → are_services (services_of type single multi) ≡ true
kept type single [] few none = one_or_none (is_event_type type || is_there single) single
kept type single (service ∷ services) few none =
    both_true (nat_le (length (service ∷ services)) MAX_SERVICES) (is_none (repeated [] (service ∷ services))) (search (arith, tests)) (rw none refl)

pub limits : (avps : List AvpView) (groups : List GroupView) (type : RequestType) (single : ServiceView) (multi : List ServiceView)
    → checked CreditControl avps ≡ Ok groups → length multi ≡ length (filter (has_code MULTIPLE_SERVICES_CREDIT_CONTROL) avps)
    → contradiction type multi avps ≡ None → are_services (services_of type single multi) ≡ true
limits avps groups type single multi all same agrees =
    let below = few avps groups all in
    kept type single multi (rw same below) (distinct type multi avps same agrees)
