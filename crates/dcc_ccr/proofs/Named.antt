-- A request that was read and names nobody is an update or a termination.
use Rattle.std.proofs.Common.{◌≡◌, ℕ, suc, Bool, true, false, List, [], ◌∷◌, ◌++◌, length, Option, Some, None, Result, Ok, Err, refl, sym, ap, ◌∙◌, subst, find, if◌then◌else◌, ◌||◌, ◌==◌, arith, tests, take, drop, inl, inr}
use Rattle.std.specs.Prelude.{filter, nat_lt, count_by, slice_get}
use Rattle.std.specs.Int.{w32}
use Rattle.std.specs.Option.{option_map_or, option_or, ok_or}
use Rattle.std.proofs.lemmas.Bool.{cases_Bool, eqb-true}
use Rattle.std.proofs.lemmas.List.Sums.{length-filter}
use Rattle.dcc_octets.specs.Numbers.{number_in}
use Rattle.dcc_avp.specs.Spelling.{AvpView, has_code}
use Rattle.dcc_avp.specs.declared.codes.TheConstants.{SESSION_ID, AUTH_APPLICATION_ID, CC_REQUEST_TYPE, CC_REQUEST_NUMBER, SUBSCRIPTION_ID}
use Rattle.dcc_message.specs.declared.applications.TheConstants.{CREDIT_CONTROL}
use Rattle.dcc_act.specs.Subs.{SubView}
use Rattle.dcc_act.specs.declared.service.Form.TheVariants.{Single}
use Rattle.dcc_request.specs.declared.cause.Cause.TheVariants.{MissingAvp, InvalidAvpLength, InvalidAvpValue}
use Rattle.dcc_request.specs.declared.checks.Check.TheVariants.{Unknown, TooMany, Missing}
use Rattle.dcc_request.specs.declared.command.Command.TheVariants.{CreditControl}
use Rattle.dcc_request.specs.declared.table.Times.{Times}
use Rattle.dcc_request.specs.declared.table.Times.TheVariants.{AtLeastOnce}
use Rattle.dcc_request.specs.declared.table.TheConstants.{UPDATE_TYPE, TERMINATION_TYPE, EVENT_TYPE, EVENT, SESSION, REPORT}
use Rattle.dcc_request.specs.Refusals.{Refusal, refusal, first_some, ◌>>=◌, each}
use Rattle.dcc_request.specs.Tables.{Table}
use Rattle.dcc_request.specs.Commands.{is_event, is_report_type, is_report as is_report_list, table_for}
use Rattle.dcc_request.specs.Walk.{GroupView, groups_of}
use Rattle.dcc_request.specs.Checks.{is_lacking, missing_avp, missing_in, fault_in, fault_in_group, fault_anywhere, first_fault, checked}
use Rattle.dcc_request.specs.Values.{required, name_octets, number, number_within}
use Rattle.dcc_ccr.specs.declared.request_type.RequestType.{RequestType}
use Rattle.dcc_ccr.specs.declared.request_type.RequestType.TheVariants.{Update, Termination}
use Rattle.dcc_ccr.specs.Types.{is_report, type_of}
use Rattle.dcc_ccr.specs.Subscribers.{SubscriptionView, subscription_of, chosen, sub_of, sub_of_chosen, subscriber_of}
use Rattle.dcc_ccr.specs.declared.subscription.TheConstants.{E164}
use Rattle.dcc_ccr.specs.Services.{ServiceView, service_in, multi_of}
use Rattle.dcc_ccr.specs.Requests.{ValuesView, values_of}
use Rattle.dcc_ccr.proofs.Limits.{each_length, checked_step, first_none, last_none, map_none}

-- ---- who names nobody has no Subscription-Id

none_of_one : (s : SubscriptionView) (r : Result SubView Refusal) → (r >>= λ sub. Ok (Some sub)) ≡ Ok None → Some s ≡ None
none_of_one s (Ok sub) e = absurd cc
none_of_one s (Err refusal) e = absurd cc

none_chosen : (o : Option SubscriptionView) → sub_of_chosen o ≡ Ok None → o ≡ None
none_chosen None e = refl
none_chosen (Some s) e = none_of_one s (sub_of s) e

either_there : {X : Type 0} (o : Option X) (x : X) → option_or o (Some x) ≡ None → o ≡ Some x
either_there None x e = absurd cc
either_there (Some y) x e = absurd cc

none_there : (all : List SubscriptionView) → chosen all ≡ None → all ≡ []
none_there [] e = refl
none_there (s ∷ all) e =
    let first = either_there (find (λ (x : SubscriptionView). x.kind == E164) (s ∷ all)) s e in
    absurd cc

none_read : (xs : List AvpView) (read : Result (List SubscriptionView) Refusal)
    → ((ys : List SubscriptionView) → read ≡ Ok ys → length ys ≡ length xs)
    → (read >>= λ subscriptions. sub_of_chosen (chosen subscriptions)) ≡ Ok None → length xs ≡ 0
none_read xs (Ok ys) same e =
    let none : ys ≡ [] = none_there ys (none_chosen (chosen ys) e) in
    sym (same ys refl) ∙ ap length none
none_read xs (Err refusal) same e = absurd cc

no_id : (avps : List AvpView) → subscriber_of avps ≡ Ok None → count_by (has_code SUBSCRIPTION_ID) avps ≡ 0
unfolding subscriber_of
no_id avps e =
    let ids = filter (has_code SUBSCRIPTION_ID) avps in
    sym (length-filter (has_code SUBSCRIPTION_ID) avps)
    ∙ none_read ids (each subscription_of ids) (each_length subscription_of ids) e

-- ---- which the tables of an event and of an initial request ask for

abbrev pub id_row : ℕ × Times
id_row = (SUBSCRIPTION_ID, AtLeastOnce)

lacking_step : (avps : List AvpView) (row : ℕ × Times) (table : Table) (b : Bool) → is_lacking avps row ≡ b
    → (if b then Some row else find (is_lacking avps) table) ≡ None
    → (is_lacking avps row ≡ false) × (find (is_lacking avps) table ≡ None)
lacking_step avps row table true is e = absurd cc
lacking_step avps row table false is e = (is, e)

there_in : (avps : List AvpView) (front back : Table) (row : ℕ × Times) → find (is_lacking avps) (front ++ row ∷ back) ≡ None → is_lacking avps row ≡ false
there_in avps [] back row e = (lacking_step avps row back (is_lacking avps row) refl e).0
there_in avps (other ∷ front) back row e =
    there_in avps front back row (lacking_step avps other (front ++ row ∷ back) (is_lacking avps other) refl e).1

not_lacking : (avps : List AvpView) → count_by (has_code SUBSCRIPTION_ID) avps ≡ 0 → is_lacking avps id_row ≡ false → ⊥
not_lacking avps none e =
    let lacks : true ≡ false = rw none at e in
    absurd cc

in_table : (avps : List AvpView) (event report : Bool) → count_by (has_code SUBSCRIPTION_ID) avps ≡ 0
    → missing_in (if event then EVENT else if report then REPORT else SESSION) avps ≡ None → report ≡ true
in_table avps true report none e =
    let all = map_none (λ (row : ℕ × Times). refusal MissingAvp (missing_avp row.0)) (find (is_lacking avps) EVENT) e in
    absurd (not_lacking avps none (there_in avps (take 8 EVENT) (drop 9 EVENT) id_row all))
in_table avps false true none e = refl
in_table avps false false none e =
    let all = map_none (λ (row : ℕ × Times). refusal MissingAvp (missing_avp row.0)) (find (is_lacking avps) SESSION) e in
    absurd (not_lacking avps none (there_in avps (take 8 SESSION) (drop 9 SESSION) id_row all))

none_missing : (avps : List AvpView) (groups : List GroupView) → first_fault (table_for CreditControl avps) avps groups ≡ None
    → missing_in (table_for CreditControl avps) avps ≡ None
unfolding fault_anywhere fault_in
none_missing avps groups e =
    let table = table_for CreditControl avps in
    let later = last_none (fault_anywhere table avps groups Unknown) (first_some (fault_anywhere table avps groups) (TooMany ∷ Missing ∷ [])) e in
    let last = last_none (fault_anywhere table avps groups TooMany) (first_some (fault_anywhere table avps groups) (Missing ∷ [])) later in
    let here = first_none (fault_anywhere table avps groups Missing) None last in
    first_none (fault_in Missing table avps) (first_some (fault_in_group Missing) groups) here

listed : (avps : List AvpView) (groups : List GroupView) → checked CreditControl avps ≡ Ok groups
    → count_by (has_code SUBSCRIPTION_ID) avps ≡ 0 → is_report_list avps ≡ true
unfolding checked table_for
listed avps groups all none =
    let found = checked_step (groups_of CreditControl avps) (first_fault (table_for CreditControl avps) avps) groups all in
    in_table avps (is_event avps) (is_report_list avps) none (none_missing avps found.0 found.1)

-- ---- the list's type is the request's

within : (avp : AvpView) (n kind : ℕ) (b : Bool) → (if b then Ok n else Err (refusal InvalidAvpValue avp)) ≡ Ok kind → n ≡ kind
within avp n kind true e = cc
within avp n kind false e = absurd cc

of_number : (avp : AvpView) (o : Option ℕ) (b : ℕ → Bool) (kind : ℕ) → is_report_type o ≡ true
    → (ok_or o (refusal InvalidAvpLength avp) >>= λ n. if b n then Ok n else Err (refusal InvalidAvpValue avp)) ≡ Ok kind
    → is_report_type (Some kind) ≡ true
of_number avp None b kind report e = absurd cc
of_number avp (Some n) b kind report e =
    let same : n ≡ kind = within avp n kind (b n) e in
    subst (λ (k : ℕ). is_report_type (Some k) ≡ true) same report

of_first : (o : Option AvpView) (kind : ℕ) → option_map_or (λ (avp : AvpView). is_report_type (number_in w32 avp.value)) o false ≡ true
    → (ok_or o (refusal MissingAvp (missing_avp CC_REQUEST_TYPE)) >>= λ avp. number_within avp 1 4) ≡ Ok kind → is_report_type (Some kind) ≡ true
unfolding number_within number
of_first None kind report e = absurd cc
of_first (Some avp) kind report e = of_number avp (number_in w32 avp.value) _ kind report e

of_kind : (avps : List AvpView) (kind : ℕ) (type : RequestType) → is_report_type (Some kind) ≡ true → type_of avps kind ≡ Ok type → is_report type ≡ true
unfolding type_of
of_kind avps kind type report e =
    elim (cases_Bool (kind == UPDATE_TYPE)) [
      | inl update ↦
          (let two : kind ≡ 2 = eqb-true kind 2 update in
          let is = subst (λ (k : ℕ). type_of avps k ≡ Ok type) two e in
          let same : Update ≡ type = cc in
          subst (λ (t : RequestType). is_report t ≡ true) same refl)
      | inr other ↦
          (let last : kind == TERMINATION_TYPE ≡ true = rw other at report in
          let three : kind ≡ 3 = eqb-true kind 3 last in
          let is = subst (λ (k : ℕ). type_of avps k ≡ Ok type) three e in
          let same : Termination ≡ type = cc in
          subst (λ (t : RequestType). is_report t ≡ true) same refl)
    ]

-- ---- of what was read

last_named : (session : List ℕ) (n : ℕ) (a : Result RequestType Refusal) (b : Result (Option SubView) Refusal) (c : Result ServiceView Refusal)
    (d : Result (List ServiceView) Refusal) (v : ValuesView) → ((type : RequestType) → a ≡ Ok type → b ≡ Ok None → is_report type ≡ true)
    → (a >>= λ type. b >>= λ sub. c >>= λ single. d >>= λ multi.
    Ok (record { sub = sub; session = session; number = n; type = type; single = single; multi = multi })) ≡ Ok v → v.sub ≡ None → is_report v.type ≡ true
last_named session n (Ok type) (Ok None) (Ok c) (Ok d) v good is none =
    let same : type ≡ v.type = cc in
    subst (λ (t : RequestType). is_report t ≡ true) same (good type refl refl)
last_named session n (Ok type) (Ok (Some sub)) (Ok c) (Ok d) v good is none =
    let same : Some sub ≡ v.sub = cc in
    absurd cc
last_named session n (Err r) b c d v good is none = absurd cc
last_named session n (Ok type) (Err r) c d v good is none = absurd cc
last_named session n (Ok type) (Ok b) (Err r) d v good is none = absurd cc
last_named session n (Ok type) (Ok b) (Ok c) (Err r) v good is none = absurd cc

all_named : (a : Result (List ℕ) Refusal) (b c d : Result ℕ Refusal) (e : ℕ → Result RequestType Refusal) (f : Result (Option SubView) Refusal)
    (g : Result ServiceView Refusal) (h : Result (List ServiceView) Refusal) (v : ValuesView)
    → ((kind : ℕ) (type : RequestType) → c ≡ Ok kind → e kind ≡ Ok type → f ≡ Ok None → is_report type ≡ true)
    → (a >>= λ session. b >>= λ application. c >>= λ kind. d >>= λ number. e kind >>= λ type. f >>= λ sub. g >>= λ single. h >>= λ multi.
    Ok (record { sub = sub; session = session; number = number; type = type; single = single; multi = multi })) ≡ Ok v → v.sub ≡ None → is_report v.type ≡ true
all_named (Ok a) (Ok b) (Ok c) (Ok d) e f g h v good is none = last_named a d (e c) f g h v (λ type. good c type refl) is none
all_named (Err r) b c d e f g h v good is none = absurd cc
all_named (Ok a) (Err r) c d e f g h v good is none = absurd cc
all_named (Ok a) (Ok b) (Err r) d e f g h v good is none = absurd cc
all_named (Ok a) (Ok b) (Ok c) (Err r) e f g h v good is none = absurd cc

pub named : (avps : List AvpView) (groups : List GroupView) (v : ValuesView) → checked CreditControl avps ≡ Ok groups → values_of avps ≡ Ok v
    → v.sub ≡ None → is_report v.type ≡ true
unfolding values_of
named avps groups v all is none =
    all_named (required avps SESSION_ID >>= name_octets)
    (required avps AUTH_APPLICATION_ID >>= λ avp. number_within avp CREDIT_CONTROL CREDIT_CONTROL)
    (required avps CC_REQUEST_TYPE >>= λ avp. number_within avp 1 4)
    (required avps CC_REQUEST_NUMBER >>= number) (type_of avps) (subscriber_of avps) (service_in Single None avps) (multi_of avps) v
    (λ kind type kind_is type_is names.
    of_kind avps kind type
    (of_first (find (has_code CC_REQUEST_TYPE) avps) kind (listed avps groups all (no_id avps names)) kind_is) type_is) is none
