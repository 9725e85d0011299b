-- Of a message that isn't too long, what refusals of its values show fits a message, and its Service-Identifiers are few.
use Rattle.std.proofs.Common.{◌≡◌, ℕ, ◌+◌, ◌*◌, ◌≤◌, Bool, List, [], ◌∷◌, length, Option, Some, None, Result, Ok, Err, refl, arith, tests, inl, inr}
use Rattle.std.specs.Prelude.{true, false, ◌==◌, ◌&&◌, ◌||◌, nat_le, find, filter, slice_get, if◌then◌else◌, IfSome}
use Rattle.std.specs.Int.{w32, w64, byte_len, next_multiple_of}
use Rattle.std.specs.List.{AllByRecursion, sum_by}
use Rattle.std.specs.Option.{option_and_then, ok_or}
use Rattle.std.proofs.lemmas.Bool.{cases_Bool}
use Rattle.std.proofs.lemmas.List.Sums.{sum_by-cons}
use Rattle.dcc_octets.specs.Names.{is_short}
use Rattle.dcc_avp.specs.Spelling.{AvpView, has_code, header_len, padded_len}
use Rattle.dcc_avp.specs.declared.codes.TheConstants as codes
use Rattle.dcc_message.specs.declared.length.TheConstants.{HEADER_LENGTH, MAX_LENGTH}
use Rattle.dcc_message.specs.declared.applications.TheConstants.{CREDIT_CONTROL}
use Rattle.dcc_act.specs.Subs.{SubView, is_sub}
use Rattle.dcc_act.specs.declared.limits.TheConstants.{MAX_IDS}
use Rattle.dcc_act.specs.declared.service.Form.{Form}
use Rattle.dcc_act.specs.declared.service.Form.TheVariants.{Single, Multi}
use Rattle.dcc_request.specs.declared.cause.Cause.TheVariants.{InvalidAvpLength, InvalidAvpValue, MissingAvp}
use Rattle.dcc_request.specs.declared.table.TheConstants.{EVENT_TYPE}
use Rattle.dcc_request.specs.Refusals.{Refusal, refusal, ◌>>=◌, each}
use Rattle.dcc_request.specs.Layout.{message_list}
use Rattle.dcc_request.specs.Checks.{missing_avp}
use Rattle.dcc_request.specs.Sessions.{session_named, session_of}
use Rattle.dcc_request.specs.Sizes.{AreWithin}
use Rattle.dcc_request.specs.Values.{required, name_octets, number, long_number, number_within}
use Rattle.dcc_ccr.specs.declared.request_type.RequestType.{RequestType}
use Rattle.dcc_ccr.specs.declared.request_type.RequestType.TheVariants.{Initial, Update, Termination, Event}
use Rattle.dcc_ccr.specs.Steps.{if_there, number_of, long_number_of}
use Rattle.dcc_ccr.specs.Types.{action_from, action_of, type_of}
use Rattle.dcc_ccr.specs.Amounts.{AmountsView, UnitsView, units_in, plus, nothing, is_within, limited, added, asked_in, or_nothing, counted, used_in}
use Rattle.dcc_ccr.specs.Subscribers.{SubscriptionView, subscription_of, chosen, sub_of, sub_of_chosen, subscriber_of}
use Rattle.dcc_ccr.specs.declared.subscription.TheConstants.{E164}
use Rattle.dcc_ccr.specs.Services.{ServiceView, service_in, service_of, multi_of, services_of, is_there}
use Rattle.dcc_ccr.specs.Requests.{ValuesView, values_of, count_ids}
use Rattle.dcc_ccr.specs.Types.{is_event}
use Rattle.dcc_ccr.proofs.Bounds.{IsFew, AreFew, Bounded, Any, Laws, bind, bind_any, of_any, ok_bounded, each_bounded, each_counted, filter_less, found, gotten, either, shows_one, missing_few, header_least, list_bounded}

-- ---- values of AVPs

four_more : (header size : ℕ) → 8 ≤ header → size ≡ 4 → 12 ≤ next_multiple_of (header + size) 4
four_more header size least four = omega arith

-- a number of four octets has twelve with its header
number_counted : (avp : AvpView) → IsFew avp → Bounded (λ (n : ℕ). 12 * 1 ≤ padded_len avp) (number avp)
unfolding number
number_counted avp few =
    elim (cases_Bool (length avp.value == byte_len w32)) [
      | inl four ↦ rw four (four_more (header_len avp.flags) (length avp.value) (header_least avp.flags) (search (arith, tests)))
      | inr other ↦ rw other (shows_one InvalidAvpLength avp few)
    ]

number_bounded : (avp : AvpView) → IsFew avp → Bounded Any (number avp)
number_bounded avp few = of_any (λ (n : ℕ). 12 * 1 ≤ padded_len avp) (number avp) (number_counted avp few)

long_number_bounded : (avp : AvpView) → IsFew avp → Bounded Any (long_number avp)
unfolding long_number
long_number_bounded avp few =
    elim (cases_Bool (length avp.value == byte_len w64)) [
      | inl eight ↦ rw eight tt
      | inr other ↦ rw other (shows_one InvalidAvpLength avp few)
    ]

in_range_bounded : (within : Bool) (avp : AvpView) (n : ℕ) → IsFew avp → Bounded Any (if within then Ok n else Err (refusal InvalidAvpValue avp))
in_range_bounded true avp n few = tt
in_range_bounded false avp n few = shows_one InvalidAvpValue avp few

number_within_bounded : (avp : AvpView) (low high : ℕ) → IsFew avp → Bounded Any (number_within avp low high)
unfolding number_within
number_within_bounded avp low high few =
    bind_any Any (number avp) (λ n. if nat_le low n && nat_le n high then Ok n else Err (refusal InvalidAvpValue avp)) (number_bounded avp few)
    (λ n. in_range_bounded (nat_le low n && nat_le n high) avp n few)

required_bounded : Laws → (avps : List AvpView) → AreFew avps → (code : ℕ) → Bounded IsFew (required avps code)
required_bounded laws avps few code =
    ok_bounded IsFew (find (has_code code) avps) (refusal MissingAvp (missing_avp code)) (found IsFew (has_code code) avps (laws.each avps few))
    (shows_one MissingAvp (missing_avp code) (missing_few laws code))

if_there_bounded : {B : Type 0} (read : AvpView → Result B Refusal) (o : Option AvpView) → IfSome o IsFew → ((avp : AvpView) → IsFew avp → Bounded Any (read avp)) →
    Bounded Any (if_there read o)
if_there_bounded read None few good = tt
if_there_bounded read (Some avp) few good = bind_any Any (read avp) (λ y. Ok (Some y)) (good avp few) (λ y. tt)

number_of_bounded : Laws → (avps : List AvpView) → AreFew avps → (code : ℕ) → Bounded Any (number_of avps code)
unfolding number_of
number_of_bounded laws avps few code =
    if_there_bounded number (find (has_code code) avps) (found IsFew (has_code code) avps (laws.each avps few)) number_bounded

long_number_of_bounded : Laws → (avps : List AvpView) → AreFew avps → (code : ℕ) → Bounded Any (long_number_of avps code)
unfolding long_number_of
long_number_of_bounded laws avps few code =
    if_there_bounded long_number (find (has_code code) avps) (found IsFew (has_code code) avps (laws.each avps few)) long_number_bounded

-- ---- amounts

five_bounded : (a b c d e : Result (Option ℕ) Refusal) → Bounded Any a → Bounded Any b → Bounded Any c → Bounded Any d → Bounded Any e →
    Bounded {X = UnitsView} Any (a >>= λ time. b >>= λ total. c >>= λ input. d >>= λ output. e >>= λ units.
    Ok (record { time = time; total = total; input = input; output = output; units = units }))
five_bounded (Ok a) (Ok b) (Ok c) (Ok d) (Ok e) h i j k l = tt
five_bounded (Err r) b c d e h i j k l = h
five_bounded (Ok a) (Err r) c d e h i j k l = i
five_bounded (Ok a) (Ok b) (Err r) d e h i j k l = j
five_bounded (Ok a) (Ok b) (Ok c) (Err r) e h i j k l = k
five_bounded (Ok a) (Ok b) (Ok c) (Ok d) (Err r) h i j k l = l

units_in_bounded : Laws → (avps : List AvpView) → AreFew avps → Bounded Any (units_in avps)
unfolding units_in
units_in_bounded laws avps few =
    five_bounded (number_of avps codes.CC_TIME) (long_number_of avps codes.CC_TOTAL_OCTETS) (long_number_of avps codes.CC_INPUT_OCTETS)
    (long_number_of avps codes.CC_OUTPUT_OCTETS) (long_number_of avps codes.CC_SERVICE_SPECIFIC_UNITS)
    (number_of_bounded laws avps few codes.CC_TIME) (long_number_of_bounded laws avps few codes.CC_TOTAL_OCTETS)
    (long_number_of_bounded laws avps few codes.CC_INPUT_OCTETS) (long_number_of_bounded laws avps few codes.CC_OUTPUT_OCTETS)
    (long_number_of_bounded laws avps few codes.CC_SERVICE_SPECIFIC_UNITS)

limited_bounded : (avp : AvpView) (amounts : AmountsView) → IsFew avp → Bounded Any (limited avp amounts)
limited_bounded avp amounts few =
    elim (cases_Bool (is_within amounts)) [
      | inl within ↦ rw within tt
      | inr beyond ↦ rw beyond (shows_one InvalidAvpValue avp few)
    ]

within_group : (inner group : ℕ) → inner ≤ group → group ≤ MAX_LENGTH → inner ≤ MAX_LENGTH
within_group inner group less few = omega arith

added_bounded : Laws → (sum : AmountsView) (avp : AvpView) → IsFew avp → Bounded Any (added sum avp)
unfolding added
added_bounded laws sum avp few =
    bind (λ avps. sum_by padded_len avps ≤ padded_len avp) Any (message_list avp.value) (λ avps. units_in avps >>= λ said. limited avp (plus sum said)) (list_bounded laws avp)
    (λ avps less. bind_any Any (units_in avps) (λ said. limited avp (plus sum said)) (units_in_bounded laws avps (within_group (sum_by padded_len avps) (padded_len avp) less few))
    (λ said. limited_bounded avp (plus sum said) few))

asked_in_bounded : Laws → (avps : List AvpView) → AreFew avps → Bounded Any (asked_in avps)
unfolding asked_in
asked_in_bounded laws avps few =
    if_there_bounded (added nothing) (find (has_code codes.REQUESTED_SERVICE_UNIT) avps) (found IsFew (has_code codes.REQUESTED_SERVICE_UNIT) avps (laws.each avps few))
    (added_bounded laws nothing)

counted_bounded : Laws → (sum : Option AmountsView) (avps : List AvpView) → AreWithin MAX_LENGTH avps → Bounded Any (counted sum avps)
counted_bounded laws sum [] few = tt
counted_bounded laws sum (avp ∷ avps) few =
    bind_any Any (added (or_nothing sum) avp) (λ more. counted (Some more) avps) (added_bounded laws (or_nothing sum) avp few.0)
    (λ more. counted_bounded laws (Some more) avps few.1)

filter_few : (test : AvpView → Bool) (avps : List AvpView) → AreFew avps → AreFew (filter test avps)
filter_few test avps few = within_group (sum_by padded_len (filter test avps)) (sum_by padded_len avps) (filter_less test avps) few

used_in_bounded : Laws → (avps : List AvpView) → AreFew avps → Bounded Any (used_in avps)
unfolding used_in
used_in_bounded laws avps few =
    counted_bounded laws None (filter (has_code codes.USED_SERVICE_UNIT) avps)
    (laws.each (filter (has_code codes.USED_SERVICE_UNIT) avps) (filter_few (has_code codes.USED_SERVICE_UNIT) avps few))

-- ---- services

-- each number is counted as one
length_ones : (ids : List ℕ) → sum_by (λ (id : ℕ). 1) ids ≡ length ids
length_ones [] = refl
length_ones (id ∷ ids) =
    let all = sum_by-cons (λ (id : ℕ). 1) id ids in
    let rest = length_ones ids in
    omega arith

counted_ids : (read : Result (List ℕ) Refusal) (few all : ℕ) → few ≤ all → Bounded (λ ids. 12 * sum_by (λ (id : ℕ). 1) ids ≤ few) read →
    Bounded (λ ids. 12 * length ids ≤ all) read
counted_ids (Ok ids) few all less h =
    let same = length_ones ids in
    omega arith
counted_ids (Err refusal) few all less h = h

ids_bounded : (avps : List AvpView) → AreFew avps →
    Bounded (λ ids. 12 * length ids ≤ sum_by padded_len avps) (each number (filter (has_code codes.SERVICE_IDENTIFIER) avps))
ids_bounded avps few =
    counted_ids (each number (filter (has_code codes.SERVICE_IDENTIFIER) avps)) (sum_by padded_len (filter (has_code codes.SERVICE_IDENTIFIER) avps)) (sum_by padded_len avps)
    (filter_less (has_code codes.SERVICE_IDENTIFIER) avps)
    (each_counted padded_len (λ (id : ℕ). 1) number (filter (has_code codes.SERVICE_IDENTIFIER) avps) number_counted (filter_few (has_code codes.SERVICE_IDENTIFIER) avps few))

three_bounded : (most : ℕ) (form : Form) (group : Option ℕ) (a : Result (List ℕ) Refusal) (b c : Result (Option AmountsView) Refusal) →
    Bounded (λ ids. 12 * length ids ≤ most) a → Bounded Any b → Bounded Any c →
    Bounded (λ (s : ServiceView). 12 * length s.ids ≤ most) (a >>= λ ids. b >>= λ asked. c >>= λ used.
    Ok (record { form = form; group = group; ids = ids; asked = asked; used = used }))
three_bounded most form group (Ok a) (Ok b) (Ok c) h i j = h
three_bounded most form group (Err r) b c h i j = h
three_bounded most form group (Ok a) (Err r) c h i j = i
three_bounded most form group (Ok a) (Ok b) (Err r) h i j = j

service_in_bounded : Laws → (form : Form) (group : Option ℕ) (avps : List AvpView) → AreFew avps →
    Bounded (λ (s : ServiceView). 12 * length s.ids ≤ sum_by padded_len avps) (service_in form group avps)
unfolding service_in
service_in_bounded laws form group avps few =
    three_bounded (sum_by padded_len avps) form group (each number (filter (has_code codes.SERVICE_IDENTIFIER) avps)) (asked_in avps) (used_in avps)
    (ids_bounded avps few) (asked_in_bounded laws avps few) (used_in_bounded laws avps few)

more_ids : (few all : ℕ) (read : Result ServiceView Refusal) → few ≤ all → Bounded (λ (s : ServiceView). 12 * length s.ids ≤ few) read →
    Bounded (λ (s : ServiceView). 12 * length s.ids ≤ all) read
more_ids few all (Ok s) less h = omega arith
more_ids few all (Err refusal) less h = h

service_of_bounded : Laws → (avp : AvpView) → IsFew avp → Bounded (λ (s : ServiceView). 12 * length s.ids ≤ padded_len avp) (service_of avp)
unfolding service_of
service_of_bounded laws avp few =
    bind (λ avps. sum_by padded_len avps ≤ padded_len avp) (λ (s : ServiceView). 12 * length s.ids ≤ padded_len avp) (message_list avp.value)
    (λ avps. number_of avps codes.RATING_GROUP >>= λ group. service_in Multi group avps) (list_bounded laws avp)
    (λ avps less. bind_any (λ (s : ServiceView). 12 * length s.ids ≤ padded_len avp) (number_of avps codes.RATING_GROUP) (λ group. service_in Multi group avps)
    (number_of_bounded laws avps (within_group (sum_by padded_len avps) (padded_len avp) less few) codes.RATING_GROUP)
    (λ group. more_ids (sum_by padded_len avps) (padded_len avp) (service_in Multi group avps) less
    (service_in_bounded laws Multi group avps (within_group (sum_by padded_len avps) (padded_len avp) less few))))

more_services : (few all : ℕ) (read : Result (List ServiceView) Refusal) → few ≤ all → Bounded (λ services. 12 * count_ids services ≤ few) read →
    Bounded (λ services. 12 * count_ids services ≤ all) read
more_services few all (Ok services) less h = omega arith
more_services few all (Err refusal) less h = h

multi_of_bounded : Laws → (avps : List AvpView) → AreFew avps → Bounded (λ services. 12 * count_ids services ≤ sum_by padded_len avps) (multi_of avps)
unfolding multi_of
multi_of_bounded laws avps few =
    more_services (sum_by padded_len (filter (has_code codes.MULTIPLE_SERVICES_CREDIT_CONTROL) avps)) (sum_by padded_len avps)
    (each service_of (filter (has_code codes.MULTIPLE_SERVICES_CREDIT_CONTROL) avps)) (filter_less (has_code codes.MULTIPLE_SERVICES_CREDIT_CONTROL) avps)
    (each_counted padded_len (λ (s : ServiceView). length s.ids) service_of (filter (has_code codes.MULTIPLE_SERVICES_CREDIT_CONTROL) avps) (service_of_bounded laws)
    (filter_few (has_code codes.MULTIPLE_SERVICES_CREDIT_CONTROL) avps few))

-- ---- the subscriber

abbrev pub IsFewSubscription : SubscriptionView → Type 0
IsFewSubscription s = IsFew s.type × IsFew s.name

subscription_of_bounded : Laws → (avp : AvpView) → IsFew avp → Bounded IsFewSubscription (subscription_of avp)
unfolding subscription_of
subscription_of_bounded laws avp few =
    bind (λ avps. sum_by padded_len avps ≤ padded_len avp) IsFewSubscription (message_list avp.value)
    (λ avps. required avps codes.SUBSCRIPTION_ID_TYPE >>= λ type. number type >>= λ kind. required avps codes.SUBSCRIPTION_ID_DATA >>= λ name.
    Ok (record { kind = kind; type = type; name = name })) (list_bounded laws avp)
    (λ avps less. let all = within_group (sum_by padded_len avps) (padded_len avp) less few in
    bind IsFew IsFewSubscription (required avps codes.SUBSCRIPTION_ID_TYPE)
    (λ type. number type >>= λ kind. required avps codes.SUBSCRIPTION_ID_DATA >>= λ name. Ok (record { kind = kind; type = type; name = name }))
    (required_bounded laws avps all codes.SUBSCRIPTION_ID_TYPE)
    (λ type one. bind_any IsFewSubscription (number type) (λ kind. required avps codes.SUBSCRIPTION_ID_DATA >>= λ name. Ok (record { kind = kind; type = type; name = name }))
    (number_bounded type one)
    (λ kind. bind IsFew IsFewSubscription (required avps codes.SUBSCRIPTION_ID_DATA) (λ name. Ok (record { kind = kind; type = type; name = name }))
    (required_bounded laws avps all codes.SUBSCRIPTION_ID_DATA) (λ name other. (one, other)))))

named_bounded : (is : Bool) (avp : AvpView) (sub : SubView) → IsFew avp → Bounded Any (if is then Ok sub else Err (refusal InvalidAvpValue avp))
named_bounded true avp sub few = tt
named_bounded false avp sub few = shows_one InvalidAvpValue avp few

sub_of_bounded : (s : SubscriptionView) → IsFewSubscription s → Bounded Any (sub_of s)
unfolding sub_of
sub_of_bounded s few =
    bind_any Any (number_within s.type 0 4) (λ kind. if is_sub kind s.name.value then Ok (record { kind = kind; name = s.name.value }) else Err (refusal InvalidAvpValue s.name))
    (number_within_bounded s.type 0 4 few.0)
    (λ kind. named_bounded (is_sub kind s.name.value) s.name (record { kind = kind; name = s.name.value }) few.1)

sub_bounded : (o : Option SubscriptionView) → IfSome o IsFewSubscription → Bounded Any (sub_of_chosen o)
sub_bounded None few = tt
sub_bounded (Some s) few = bind_any Any (sub_of s) (λ sub. Ok (Some sub)) (sub_of_bounded s few) (λ sub. tt)

chosen_bounded : (all : List SubscriptionView) → AllByRecursion IsFewSubscription all → Bounded Any (sub_of_chosen (chosen all))
chosen_bounded all few =
    sub_bounded (chosen all)
    (either IsFewSubscription (find (λ s. s.kind == E164) all) (slice_get all 0) (found IsFewSubscription (λ s. s.kind == E164) all few) (gotten IsFewSubscription all 0 few))

subscriber_of_bounded : Laws → (avps : List AvpView) → AreFew avps → Bounded Any (subscriber_of avps)
unfolding subscriber_of
subscriber_of_bounded laws avps few =
    bind (AllByRecursion IsFewSubscription) Any (each subscription_of (filter (has_code codes.SUBSCRIPTION_ID) avps))
    (λ all. sub_of_chosen (chosen all))
    (each_bounded IsFew IsFewSubscription subscription_of (filter (has_code codes.SUBSCRIPTION_ID) avps) (subscription_of_bounded laws)
    (laws.each (filter (has_code codes.SUBSCRIPTION_ID) avps) (filter_few (has_code codes.SUBSCRIPTION_ID) avps few)))
    (λ all each. chosen_bounded all each)

-- ---- the request

action_of_bounded : Laws → (avps : List AvpView) → AreFew avps → Bounded Any (action_of avps)
unfolding action_of
action_of_bounded laws avps few =
    bind IsFew Any (required avps codes.REQUESTED_ACTION) (λ avp. number_within avp 0 3 >>= λ n. Ok (action_from n)) (required_bounded laws avps few codes.REQUESTED_ACTION)
    (λ avp one. bind_any Any (number_within avp 0 3) (λ n. Ok (action_from n)) (number_within_bounded avp 0 3 one) (λ n. tt))

others_bounded : (a b : Bool) → Bounded Any (if a then Ok Initial else if b then Ok Update else Ok Termination)
others_bounded true b = tt
others_bounded false true = tt
others_bounded false false = tt

type_of_bounded : Laws → (avps : List AvpView) → AreFew avps → (n : ℕ) → Bounded Any (type_of avps n)
unfolding type_of
type_of_bounded laws avps few n =
    elim (cases_Bool (n == EVENT_TYPE)) [
      | inl event ↦ rw event (bind_any Any (action_of avps) (λ action. Ok (Event action)) (action_of_bounded laws avps few) (λ action. tt))
      | inr other ↦ rw other (others_bounded (n == 1) (n == 2))
    ]

named : (avp : AvpView) → IsFew avp → Bounded (λ session. session_named avp.value ≡ Some session) (name_octets avp)
named avp few =
    elim (cases_Bool (is_short avp.value)) [
      | inl short ↦ rw short refl
      | inr other ↦ rw other (shows_one InvalidAvpLength avp few)
    ]

session_bounded : (o : Option AvpView) (refusal : Refusal) → IfSome o IsFew → AreFew refusal.failed →
    Bounded (λ session. option_and_then (λ (avp : AvpView). session_named avp.value) o ≡ Some session) (ok_or o refusal >>= name_octets)
session_bounded None refusal some none = none
session_bounded (Some avp) refusal some none = named avp some

session_is : Laws → (avps : List AvpView) → AreFew avps → Bounded (λ session. session_of avps ≡ Some session) (required avps codes.SESSION_ID >>= name_octets)
unfolding session_of
session_is laws avps few =
    session_bounded (find (has_code codes.SESSION_ID) avps) (refusal MissingAvp (missing_avp codes.SESSION_ID))
    (found IsFew (has_code codes.SESSION_ID) avps (laws.each avps few)) (shows_one MissingAvp (missing_avp codes.SESSION_ID) (missing_few laws codes.SESSION_ID))

in_range : Laws → (avps : List AvpView) → AreFew avps → (code low high : ℕ) → Bounded Any (required avps code >>= λ avp. number_within avp low high)
in_range laws avps few code low high =
    bind IsFew Any (required avps code) (λ avp. number_within avp low high) (required_bounded laws avps few code) (λ avp one. number_within_bounded avp low high one)

-- of the values of a list: the session is that which it names, and each Service-Identifier has twelve octets of it
abbrev pub FewValues : List AvpView → ValuesView → Type 0
FewValues avps v =
    (session_of avps ≡ Some v.session) × (12 * length v.single.ids ≤ sum_by padded_len avps) × (12 * count_ids v.multi ≤ sum_by padded_len avps)

last_bounded : (avps : List AvpView) (session : List ℕ) (n : ℕ) (a : Result RequestType Refusal) (b : Result (Option SubView) Refusal)
    (c : Result ServiceView Refusal) (d : Result (List ServiceView) Refusal) → session_of avps ≡ Some session → Bounded Any a → Bounded Any b →
    Bounded (λ (s : ServiceView). 12 * length s.ids ≤ sum_by padded_len avps) c → Bounded (λ services. 12 * count_ids services ≤ sum_by padded_len avps) d →
    Bounded (FewValues avps) (a >>= λ type. b >>= λ sub. c >>= λ single. d >>= λ multi.
    Ok (record { sub = sub; session = session; number = n; type = type; single = single; multi = multi }))
last_bounded avps session n (Ok a) (Ok b) (Ok c) (Ok d) is h i j k = (is, j, k)
last_bounded avps session n (Err r) b c d is h i j k = h
last_bounded avps session n (Ok a) (Err r) c d is h i j k = i
last_bounded avps session n (Ok a) (Ok b) (Err r) d is h i j k = j
last_bounded avps session n (Ok a) (Ok b) (Ok c) (Err r) is h i j k = k

all_bounded : (avps : List AvpView) (a : Result (List ℕ) Refusal) (b c d : Result ℕ Refusal) (e : ℕ → Result RequestType Refusal) (f : Result (Option SubView) Refusal)
    (g : Result ServiceView Refusal) (h : Result (List ServiceView) Refusal) →
    Bounded (λ session. session_of avps ≡ Some session) a → Bounded Any b → Bounded Any c → Bounded Any d → ((n : ℕ) → Bounded Any (e n)) → Bounded Any f →
    Bounded (λ (s : ServiceView). 12 * length s.ids ≤ sum_by padded_len avps) g → Bounded (λ services. 12 * count_ids services ≤ sum_by padded_len avps) h →
    Bounded (FewValues avps) (a >>= λ session. b >>= λ application. c >>= λ kind. d >>= λ number. e kind >>= λ type. f >>= λ sub. g >>= λ single. h >>= λ multi.
    Ok (record { sub = sub; session = session; number = number; type = type; single = single; multi = multi }))
all_bounded avps (Ok a) (Ok b) (Ok c) (Ok d) e f g h i j k l m n o p = last_bounded avps a d (e c) f g h i (m c) n o p
all_bounded avps (Err r) b c d e f g h i j k l m n o p = i
all_bounded avps (Ok a) (Err r) c d e f g h i j k l m n o p = j
all_bounded avps (Ok a) (Ok b) (Err r) d e f g h i j k l m n o p = k
all_bounded avps (Ok a) (Ok b) (Ok c) (Err r) e f g h i j k l m n o p = l

pub values_bounded : Laws → (avps : List AvpView) → AreFew avps → Bounded (FewValues avps) (values_of avps)
unfolding values_of
values_bounded laws avps few =
    all_bounded avps (required avps codes.SESSION_ID >>= name_octets)
    (required avps codes.AUTH_APPLICATION_ID >>= λ avp. number_within avp CREDIT_CONTROL CREDIT_CONTROL)
    (required avps codes.CC_REQUEST_TYPE >>= λ avp. number_within avp 1 4)
    (required avps codes.CC_REQUEST_NUMBER >>= number) (type_of avps) (subscriber_of avps) (service_in Single None avps) (multi_of avps)
    (session_is laws avps few) (in_range laws avps few codes.AUTH_APPLICATION_ID CREDIT_CONTROL CREDIT_CONTROL) (in_range laws avps few codes.CC_REQUEST_TYPE 1 4)
    (bind IsFew Any (required avps codes.CC_REQUEST_NUMBER) number (required_bounded laws avps few codes.CC_REQUEST_NUMBER) number_bounded)
    (type_of_bounded laws avps few) (subscriber_of_bounded laws avps few) (service_in_bounded laws Single None avps few) (multi_of_bounded laws avps few)

of_read : (avps : List AvpView) (read : Result ValuesView Refusal) (v : ValuesView) → read ≡ Ok v → Bounded (FewValues avps) read → FewValues avps v
of_read avps read v is h = rw is at h

pub values_few : Laws → (avps : List AvpView) → AreFew avps → (v : ValuesView) → values_of avps ≡ Ok v → FewValues avps v
values_few laws avps few v is = of_read avps (values_of avps) v is (values_bounded laws avps few)

-- ---- the Service-Identifiers of a request

of_twelve : (n octets : ℕ) → 12 * n ≤ octets → HEADER_LENGTH + octets ≤ MAX_LENGTH → n ≤ MAX_IDS
of_twelve n octets h small = omega arith

one_or_none : (is : Bool) (single : ServiceView) (most : ℕ) → length single.ids ≤ most → count_ids (if is then single ∷ [] else []) ≤ most
one_or_none true single most few = omega arith
one_or_none false single most few = omega arith

either_few : (type : RequestType) (single : ServiceView) (multi : List ServiceView) (most : ℕ) → length single.ids ≤ most → count_ids multi ≤ most →
    count_ids (services_of type single multi) ≤ most
either_few type single [] most one all = one_or_none (is_event type || is_there single) single most one
either_few type single (service ∷ services) most one all = all

pub few_ids : (octets : ℕ) (type : RequestType) (single : ServiceView) (multi : List ServiceView) → HEADER_LENGTH + octets ≤ MAX_LENGTH →
    12 * length single.ids ≤ octets → 12 * count_ids multi ≤ octets → count_ids (services_of type single multi) ≤ MAX_IDS
few_ids octets type single multi small one all =
    either_few type single multi MAX_IDS (of_twelve (length single.ids) octets one small) (of_twelve (count_ids multi) octets all small)
