-- In a request that was read a service in single form stands alone, and an event has just one.
use Rattle.std.proofs.Common.{◌≡◌, ℕ, ◌<◌, Bool, true, false, List, [], ◌∷◌, length, Option, None, Result, Ok, Err, refl, sym, ap, if◌then◌else◌, ◌||◌, arith}
use Rattle.std.specs.Prelude.{filter, nat_le}
use Rattle.std.specs.List.{list_all}
use Rattle.dcc_avp.specs.Spelling.{AvpView, has_code}
use Rattle.dcc_avp.specs.declared.codes.TheConstants.{RATING_GROUP, SERVICE_IDENTIFIER, MULTIPLE_SERVICES_CREDIT_CONTROL}
use Rattle.dcc_act.specs.declared.service.Form.{Form}
use Rattle.dcc_act.specs.declared.service.Form.TheVariants.{Multi}
use Rattle.dcc_act.specs.Services.{is_multi}
use Rattle.dcc_request.specs.Refusals.{Refusal, or_else, ◌>>=◌, each}
use Rattle.dcc_request.specs.Layout.{message_list}
use Rattle.dcc_request.specs.Values.{number}
use Rattle.dcc_ccr.specs.declared.request_type.RequestType.{RequestType}
use Rattle.dcc_ccr.specs.Types.{is_event}
use Rattle.dcc_ccr.specs.Steps.{number_of}
use Rattle.dcc_ccr.specs.Amounts.{AmountsView, asked_in, used_in}
use Rattle.dcc_ccr.specs.Services.{ServiceView, service_in, service_of, multi_of, is_there, services_of}
use Rattle.dcc_ccr.specs.Requests.{stand_right}
use Rattle.dcc_ccr.specs.Contradictions.{both_at, units_beside, several_in_event, same_keys, contradiction}
use Rattle.dcc_ccr.proofs.Limits.{last_none, first_none, both_there}

-- ---- each Multiple-Services-Credit-Control is read as such

-- what holds of each that the second step gives holds of what both do
after_step : {A B : Type 0} (P : B → Type 0) (r : Result A Refusal) (f : A → Result B Refusal) (y : B)
    → ((x : A) → f x ≡ Ok y → P y) → (r >>= f) ≡ Ok y → P y
after_step P (Ok x) f y holds e = holds x e
after_step P (Err refusal) f y holds e = absurd cc

form_given : (form : Form) (group : Option ℕ) (ids : Result (List ℕ) Refusal) (asked used : Result (Option AmountsView) Refusal) (s : ServiceView)
    → (ids >>= λ ids. asked >>= λ asked. used >>= λ used. Ok (record { form = form; group = group; ids = ids; asked = asked; used = used })) ≡ Ok s
    → s.form ≡ form
form_given form group (Ok ids) (Ok asked) (Ok used) s e =
    let same : record { form = form; group = group; ids = ids; asked = asked; used = used } ≡ s = cc in
    sym (ap (λ (s : ServiceView). s.form) same)
form_given form group (Err r) asked used s e = absurd cc
form_given form group (Ok ids) (Err r) used s e = absurd cc
form_given form group (Ok ids) (Ok asked) (Err r) s e = absurd cc

form_in : (form : Form) (group : Option ℕ) (avps : List AvpView) (s : ServiceView) → service_in form group avps ≡ Ok s → s.form ≡ form
unfolding service_in
form_in form group avps s e = form_given form group (each number (filter (has_code SERVICE_IDENTIFIER) avps)) (asked_in avps) (used_in avps) s e

is_multi_read : (avp : AvpView) (s : ServiceView) → service_of avp ≡ Ok s → is_multi s.form ≡ true
unfolding service_of
is_multi_read avp s e =
    let P : ServiceView → Type 0 = λ s. s.form ≡ Multi in
    let form : s.form ≡ Multi =
    after_step P (message_list avp.value) (λ avps. number_of avps RATING_GROUP >>= λ group. service_in Multi group avps) s
    (λ avps read. after_step P (number_of avps RATING_GROUP) (λ group. service_in Multi group avps) s (λ group found. form_in Multi group avps s found) read) e in
    ap is_multi form

each_step : {B : Type 0} (P : B → Bool) (r : Result B Refusal) (rest : Result (List B) Refusal) (ys : List B)
    → ((y : B) → r ≡ Ok y → P y ≡ true) → ((zs : List B) → rest ≡ Ok zs → list_all P zs ≡ true)
    → (r >>= λ first. rest >>= λ others. Ok (first ∷ others)) ≡ Ok ys → list_all P ys ≡ true
each_step P (Ok y) (Ok others) ys here later e =
    let s : y ∷ others ≡ ys = cc in
    rw (sym s) (rw (here y refl) (later others refl))
each_step P (Ok y) (Err refusal) ys here later e = absurd cc
each_step P (Err refusal) rest ys here later e = absurd cc

each_holds : {A B : Type 0} (P : B → Bool) (f : A → Result B Refusal) (xs : List A) (ys : List B)
    → ((x : A) (y : B) → f x ≡ Ok y → P y ≡ true) → each f xs ≡ Ok ys → list_all P ys ≡ true
each_holds P f [] ys holds e =
    let s : [] ≡ ys = cc in
    rw (sym s) refl
each_holds P f (x ∷ xs) ys holds e = each_step P (f x) (each f xs) ys (holds x) (λ zs. each_holds P f xs zs holds) e

pub multi_forms : (avps : List AvpView) (services : List ServiceView) → multi_of avps ≡ Ok services
    → list_all (λ service. is_multi service.form) services ≡ true
unfolding multi_of
multi_forms avps services e =
    each_holds (λ service. is_multi service.form) service_of (filter (has_code MULTIPLE_SERVICES_CREDIT_CONTROL) avps) services is_multi_read e

-- ---- how the services of a request stand

one_at_most : (is : Bool) (single : ServiceView) → stand_right (if is then single ∷ [] else []) ≡ true
one_at_most true single = refl
one_at_most false single = refl

or_true : (a b : Bool) → b ≡ true → (a || b) ≡ true
or_true true b e = refl
or_true false b e = e

pub stand : (type : RequestType) (single : ServiceView) (multi : List ServiceView) → list_all (λ service. is_multi service.form) multi ≡ true
    → stand_right (services_of type single multi) ≡ true
stand type single [] all = one_at_most (is_event type || is_there single) single
stand type single (service ∷ []) all = refl
stand type single (service ∷ other ∷ others) all =
    or_true (nat_le (length (service ∷ other ∷ others)) 1) (list_all (λ (s : ServiceView). is_multi s.form) (service ∷ other ∷ others)) all

-- ---- an event has one

none_in_event : (type : RequestType) (avps : List AvpView) → is_event type ≡ true → several_in_event type avps ≡ None → both_at avps 0 1 ≡ None
none_in_event type avps event e = rw event at e

one_there : (is : Bool) (single : ServiceView) → is ≡ true → length (if is then single ∷ [] else []) ≡ 1
one_there true single e = refl
one_there false single e = absurd cc

in_event : (type : RequestType) (single : ServiceView) (multi : List ServiceView) (n : ℕ) → length multi ≡ n → is_event type ≡ true
    → (1 < n → ⊥) → length (services_of type single multi) ≡ 1
in_event type single [] n same event few = one_there (is_event type || is_there single) single (rw event refl)
in_event type single (service ∷ []) n same event few = refl
in_event type single (service ∷ other ∷ others) n same event few = absurd (few (omega arith))

pub one_service : (type : RequestType) (single : ServiceView) (multi : List ServiceView) (avps : List AvpView)
    → length multi ≡ length (filter (has_code MULTIPLE_SERVICES_CREDIT_CONTROL) avps) → contradiction type multi avps ≡ None
    → is_event type ≡ true → length (services_of type single multi) ≡ 1
unfolding contradiction
one_service type single multi avps same e event =
    let later = last_none (units_beside avps) (or_else (several_in_event type avps) (same_keys multi avps)) e in
    let several = first_none (several_in_event type avps) (same_keys multi avps) later in
    let none = none_in_event type avps event several in
    in_event type single multi (length (filter (has_code MULTIPLE_SERVICES_CREDIT_CONTROL) avps)) same event
    (λ more. both_there avps 0 1 (omega arith) more none)
