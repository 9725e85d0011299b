-- Acts that are alike field by field are equal.
use Rattle.std.proofs.Common.{◌≡◌, ℕ, true, ◌&&◌, ◌==◌, List, [], ◌∷◌, Option, Some, None, refl, ap, ◌∙◌, subst}
use Rattle.std.specs.Prelude.{bytes_eq}
use Rattle.std.specs.Cmp.Lexicographic.{pointwise}
use Rattle.std.proofs.lemmas.Bool.{and_parts, and_from, eqb-true, eq-eqb}
use Rattle.std.proofs.lemmas.Slice.Eq.{bytes_eq-Decides}
use Rattle.dcc_tariff.specs.Terms.{TariffView}
use Rattle.dcc_tariff.specs.declared.tariff.UnitKind.{UnitKind}
use Rattle.dcc_tariff.specs.declared.tariff.UnitKind.TheVariants.{Octets, Time, Units}
use Rattle.dcc_act.specs.declared.act.Act.{Act}
use Rattle.dcc_act.specs.declared.act.Kind.{Kind}
use Rattle.dcc_act.specs.declared.act.Kind.TheVariants.{TopUp, Initial, Update, Termination, Event, Expiry}
use Rattle.dcc_act.specs.declared.one_time_event.Action.{Action}
use Rattle.dcc_act.specs.declared.one_time_event.Action.TheVariants.{DirectDebiting, RefundAccount, CheckBalance, PriceEnquiry}
use Rattle.dcc_act.specs.declared.request_key.RequestKey.{RequestKey}
use Rattle.dcc_act.specs.declared.service.Form.{Form}
use Rattle.dcc_act.specs.declared.service.Form.TheVariants.{Single, Multi}
use Rattle.dcc_act.specs.declared.session_limit.SessionLimit.{SessionLimit}
use Rattle.dcc_act.specs.declared.session_limit.SessionLimit.TheVariants.{Few, Many}
use Rattle.dcc_act.specs.declared.session_request.SessionRequest.{SessionRequest}
use Rattle.dcc_act.specs.OneTimeEvents.{OneTimeEventView}
use Rattle.dcc_act.specs.ServiceKeys.{same_number}
use Rattle.dcc_act.specs.Services.{ServiceView}
use Rattle.dcc_act.specs.TopUps.{TopUpView}
use Rattle.dcc_receipts.specs.Acts.{same_unit, same_units, same_tariffs, same_form, same_action, same_service, same_key, same_request, same_limit, same_host, same_event, same_kind, same_act, SameActsAreEqual}

number_equal : (a b : Option ℕ) → same_number a b ≡ true → a ≡ b
number_equal None None e = refl
number_equal (Some a) (Some b) e = ap (λ (n : ℕ). Some n) (eqb-true a b e)
number_equal None (Some b) e = absurd cc
number_equal (Some a) None e = absurd cc

number_self : (a : Option ℕ) → same_number a a ≡ true
number_self None = refl
number_self (Some a) = eq-eqb a a refl

unit_equal : (a b : UnitKind) → same_unit a b ≡ true → a ≡ b
unit_equal Octets Octets e = refl
unit_equal Octets Time e = absurd cc
unit_equal Octets Units e = absurd cc
unit_equal Time Octets e = absurd cc
unit_equal Time Time e = refl
unit_equal Time Units e = absurd cc
unit_equal Units Octets e = absurd cc
unit_equal Units Time e = absurd cc
unit_equal Units Units e = refl

unit_self : (a : UnitKind) → same_unit a a ≡ true
unit_self Octets = refl
unit_self Time = refl
unit_self Units = refl

units_equal : (a b : Option UnitKind) → same_units a b ≡ true → a ≡ b
units_equal None None e = refl
units_equal (Some a) (Some b) e = ap (λ (u : UnitKind). Some u) (unit_equal a b e)
units_equal None (Some b) e = absurd cc
units_equal (Some a) None e = absurd cc

units_self : (a : Option UnitKind) → same_units a a ≡ true
units_self None = refl
units_self (Some a) = unit_self a

tariff_equal : (a b : TariffView) → a.price ≡ b.price → a.block ≡ b.block → a ≡ b
tariff_equal a b price block =
    ap (λ (p : ℕ). record { price = p; block = a.block }) price ∙ ap (λ (n : ℕ). record { price = b.price; block = n }) block

tariffs_equal : (a b : Option TariffView) → same_tariffs a b ≡ true → a ≡ b
tariffs_equal None None e = refl
tariffs_equal (Some a) (Some b) e =
    let both = and_parts (a.price == b.price) (a.block == b.block) e in
    ap (λ (t : TariffView). Some t) (tariff_equal a b (eqb-true a.price b.price both.0) (eqb-true a.block b.block both.1))
tariffs_equal None (Some b) e = absurd cc
tariffs_equal (Some a) None e = absurd cc

tariffs_self : (a : Option TariffView) → same_tariffs a a ≡ true
tariffs_self None = refl
tariffs_self (Some a) = and_from (a.price == a.price) (a.block == a.block) (eq-eqb a.price a.price refl) (eq-eqb a.block a.block refl)

form_equal : (a b : Form) → same_form a b ≡ true → a ≡ b
form_equal Single Single e = refl
form_equal Single Multi e = absurd cc
form_equal Multi Single e = absurd cc
form_equal Multi Multi e = refl

form_self : (a : Form) → same_form a a ≡ true
form_self Single = refl
form_self Multi = refl

action_equal : (a b : Action) → same_action a b ≡ true → a ≡ b
action_equal DirectDebiting DirectDebiting e = refl
action_equal RefundAccount RefundAccount e = refl
action_equal CheckBalance CheckBalance e = refl
action_equal PriceEnquiry PriceEnquiry e = refl
action_equal DirectDebiting RefundAccount e = absurd cc
action_equal DirectDebiting CheckBalance e = absurd cc
action_equal DirectDebiting PriceEnquiry e = absurd cc
action_equal RefundAccount DirectDebiting e = absurd cc
action_equal RefundAccount CheckBalance e = absurd cc
action_equal RefundAccount PriceEnquiry e = absurd cc
action_equal CheckBalance DirectDebiting e = absurd cc
action_equal CheckBalance RefundAccount e = absurd cc
action_equal CheckBalance PriceEnquiry e = absurd cc
action_equal PriceEnquiry DirectDebiting e = absurd cc
action_equal PriceEnquiry RefundAccount e = absurd cc
action_equal PriceEnquiry CheckBalance e = absurd cc

action_self : (a : Action) → same_action a a ≡ true
action_self DirectDebiting = refl
action_self RefundAccount = refl
action_self CheckBalance = refl
action_self PriceEnquiry = refl

octets_self : (a : List ℕ) → bytes_eq a a ≡ true
octets_self a = (bytes_eq-Decides a a).1 refl

service_equal : (a b : ServiceView) → same_service a b ≡ true → a ≡ b
service_equal a b e =
    let group = and_parts (same_number a.group b.group) _ e in
    let ids = and_parts (bytes_eq a.ids b.ids) _ group.1 in
    let form = and_parts (same_form a.form b.form) _ ids.1 in
    let asked = and_parts (same_number a.asked b.asked) _ form.1 in
    let used = and_parts (same_number a.used b.used) _ asked.1 in
    let unit = and_parts (same_units a.unit b.unit) _ used.1 in
    let made : Option ℕ → List ℕ → Form → Option ℕ → Option ℕ → Option UnitKind → Option TariffView → ServiceView =
    λ g i f m n u t. record { group = g; ids = i; form = f; asked = m; used = n; unit = u; tariff = t } in
    ap (λ g. made g a.ids a.form a.asked a.used a.unit a.tariff) (number_equal a.group b.group group.0)
    ∙ ap (λ i. made b.group i a.form a.asked a.used a.unit a.tariff) ((bytes_eq-Decides a.ids b.ids).0 ids.0)
    ∙ ap (λ f. made b.group b.ids f a.asked a.used a.unit a.tariff) (form_equal a.form b.form form.0)
    ∙ ap (λ m. made b.group b.ids b.form m a.used a.unit a.tariff) (number_equal a.asked b.asked asked.0)
    ∙ ap (λ n. made b.group b.ids b.form b.asked n a.unit a.tariff) (number_equal a.used b.used used.0)
    ∙ ap (λ u. made b.group b.ids b.form b.asked b.used u a.tariff) (units_equal a.unit b.unit unit.0)
    ∙ ap (λ t. made b.group b.ids b.form b.asked b.used b.unit t) (tariffs_equal a.tariff b.tariff unit.1)

service_self : (a : ServiceView) → same_service a a ≡ true
service_self a =
    and_from _ _ (number_self a.group) (and_from _ _ (octets_self a.ids) (and_from _ _ (form_self a.form) (and_from _ _ (number_self a.asked)
    (and_from _ _ (number_self a.used) (and_from _ _ (units_self a.unit) (tariffs_self a.tariff))))))

services_equal : (a b : List ServiceView) → pointwise same_service a b ≡ true → a ≡ b
services_equal [] [] e = refl
services_equal [] (b ∷ bs) e = absurd cc
services_equal (a ∷ more) [] e = absurd cc
services_equal (a ∷ more) (b ∷ bs) e =
    let both = and_parts (same_service a b) (pointwise same_service more bs) e in
    ap (λ (s : ServiceView). s ∷ more) (service_equal a b both.0) ∙ ap (λ (ss : List ServiceView). b ∷ ss) (services_equal more bs both.1)

services_self : (a : List ServiceView) → pointwise same_service a a ≡ true
services_self [] = refl
services_self (a ∷ more) = and_from (same_service a a) (pointwise same_service more more) (service_self a) (services_self more)

key_equal : (a b : RequestKey) → same_key a b ≡ true → a ≡ b
key_equal a b e =
    let both = and_parts (bytes_eq a.sid b.sid) (a.number == b.number) e in
    ap (λ (sid : List ℕ). record { sid = sid; number = a.number }) ((bytes_eq-Decides a.sid b.sid).0 both.0)
    ∙ ap (λ (n : ℕ). record { sid = b.sid; number = n }) (eqb-true a.number b.number both.1)

key_self : (a : RequestKey) → same_key a a ≡ true
key_self a = and_from (bytes_eq a.sid a.sid) (a.number == a.number) (octets_self a.sid) (eq-eqb a.number a.number refl)

request_equal : (a b : SessionRequest) → same_request a b ≡ true → a ≡ b
request_equal a b e =
    let both = and_parts (same_key a.key b.key) (pointwise same_service a.services b.services) e in
    ap (λ (k : RequestKey). record { key = k; services = a.services }) (key_equal a.key b.key both.0)
    ∙ ap (λ (s : List ServiceView). record { key = b.key; services = s }) (services_equal a.services b.services both.1)

request_self : (a : SessionRequest) → same_request a a ≡ true
request_self a = and_from (same_key a.key a.key) (pointwise same_service a.services a.services) (key_self a.key) (services_self a.services)

limit_equal : (a b : SessionLimit) → same_limit a b ≡ true → a ≡ b
limit_equal Few Few e = refl
limit_equal Few Many e = absurd cc
limit_equal Many Few e = absurd cc
limit_equal Many Many e = refl

limit_self : (a : SessionLimit) → same_limit a a ≡ true
limit_self Few = refl
limit_self Many = refl

host_equal : (a b : Option (List ℕ)) → same_host a b ≡ true → a ≡ b
host_equal None None e = refl
host_equal (Some a) (Some b) e = ap (λ (host : List ℕ). Some host) ((bytes_eq-Decides a b).0 e)
host_equal None (Some b) e = absurd cc
host_equal (Some a) None e = absurd cc

host_self : (a : Option (List ℕ)) → same_host a a ≡ true
host_self None = refl
host_self (Some a) = octets_self a

opening_equal : (a b : SessionRequest) (a_limit b_limit : SessionLimit) (a_host b_host : Option (List ℕ))
    → same_request a b && (same_limit a_limit b_limit && same_host a_host b_host) ≡ true → Initial a a_limit a_host ≡ Initial b b_limit b_host
opening_equal a b a_limit b_limit a_host b_host e =
    let request = and_parts (same_request a b) (same_limit a_limit b_limit && same_host a_host b_host) e in
    let rest = and_parts (same_limit a_limit b_limit) (same_host a_host b_host) request.1 in
    ap (λ (r : SessionRequest). Initial r a_limit a_host) (request_equal a b request.0)
    ∙ ap (λ (l : SessionLimit). Initial b l a_host) (limit_equal a_limit b_limit rest.0)
    ∙ ap (λ (h : Option (List ℕ)). Initial b b_limit h) (host_equal a_host b_host rest.1)

event_equal : (a b : OneTimeEventView) → same_event a b ≡ true → a ≡ b
event_equal a b e =
    let key = and_parts (same_key a.key b.key) (same_action a.action b.action && same_service a.service b.service) e in
    let rest = and_parts (same_action a.action b.action) (same_service a.service b.service) key.1 in
    ap (λ (k : RequestKey). record { key = k; action = a.action; service = a.service }) (key_equal a.key b.key key.0)
    ∙ ap (λ (o : Action). record { key = b.key; action = o; service = a.service }) (action_equal a.action b.action rest.0)
    ∙ ap (λ (s : ServiceView). record { key = b.key; action = b.action; service = s }) (service_equal a.service b.service rest.1)

event_self : (a : OneTimeEventView) → same_event a a ≡ true
event_self a = and_from _ _ (key_self a.key) (and_from _ _ (action_self a.action) (service_self a.service))

top_up_equal : (a b : TopUpView) → (a.ticket == b.ticket) && (a.amount == b.amount) ≡ true → a ≡ b
top_up_equal a b e =
    let both = and_parts (a.ticket == b.ticket) (a.amount == b.amount) e in
    ap (λ (n : ℕ). record { ticket = n; amount = a.amount }) (eqb-true a.ticket b.ticket both.0)
    ∙ ap (λ (n : ℕ). record { ticket = b.ticket; amount = n }) (eqb-true a.amount b.amount both.1)

kind_equal : (a b : Kind) → same_kind a b ≡ true → a ≡ b
kind_equal (TopUp a) (TopUp b) e = ap (λ (t : TopUpView). TopUp t) (top_up_equal a b e)
kind_equal (Initial a a_limit a_host) (Initial b b_limit b_host) e = opening_equal a b a_limit b_limit a_host b_host e
kind_equal (Update a) (Update b) e = ap (λ (r : SessionRequest). Update r) (request_equal a b e)
kind_equal (Termination a) (Termination b) e = ap (λ (r : SessionRequest). Termination r) (request_equal a b e)
kind_equal (Event a) (Event b) e = ap (λ (v : OneTimeEventView). Event v) (event_equal a b e)
kind_equal Expiry Expiry e = refl
kind_equal (TopUp a) (Initial b limit host) e = absurd cc
kind_equal (TopUp a) (Update b) e = absurd cc
kind_equal (TopUp a) (Termination b) e = absurd cc
kind_equal (TopUp a) (Event b) e = absurd cc
kind_equal (TopUp a) Expiry e = absurd cc
kind_equal (Initial a limit host) (TopUp b) e = absurd cc
kind_equal (Initial a limit host) (Update b) e = absurd cc
kind_equal (Initial a limit host) (Termination b) e = absurd cc
kind_equal (Initial a limit host) (Event b) e = absurd cc
kind_equal (Initial a limit host) Expiry e = absurd cc
kind_equal (Update a) (TopUp b) e = absurd cc
kind_equal (Update a) (Initial b limit host) e = absurd cc
kind_equal (Update a) (Termination b) e = absurd cc
kind_equal (Update a) (Event b) e = absurd cc
kind_equal (Update a) Expiry e = absurd cc
kind_equal (Termination a) (TopUp b) e = absurd cc
kind_equal (Termination a) (Initial b limit host) e = absurd cc
kind_equal (Termination a) (Update b) e = absurd cc
kind_equal (Termination a) (Event b) e = absurd cc
kind_equal (Termination a) Expiry e = absurd cc
kind_equal (Event a) (TopUp b) e = absurd cc
kind_equal (Event a) (Initial b limit host) e = absurd cc
kind_equal (Event a) (Update b) e = absurd cc
kind_equal (Event a) (Termination b) e = absurd cc
kind_equal (Event a) Expiry e = absurd cc
kind_equal Expiry (TopUp b) e = absurd cc
kind_equal Expiry (Initial b limit host) e = absurd cc
kind_equal Expiry (Update b) e = absurd cc
kind_equal Expiry (Termination b) e = absurd cc
kind_equal Expiry (Event b) e = absurd cc

kind_self : (a : Kind) → same_kind a a ≡ true
kind_self (TopUp a) = and_from (a.ticket == a.ticket) (a.amount == a.amount) (eq-eqb a.ticket a.ticket refl) (eq-eqb a.amount a.amount refl)
kind_self (Initial a limit host) = and_from _ _ (request_self a) (and_from _ _ (limit_self limit) (host_self host))
kind_self (Update a) = request_self a
kind_self (Termination a) = request_self a
kind_self (Event a) = event_self a
kind_self Expiry = refl

act_equal : (a b : Act) → same_act a b ≡ true → a ≡ b
act_equal a b e =
    let both = and_parts (a.moment == b.moment) (same_kind a.kind b.kind) e in
    ap (λ (m : ℕ). record { moment = m; kind = a.kind }) (eqb-true a.moment b.moment both.0)
    ∙ ap (λ (k : Kind). record { moment = b.moment; kind = k }) (kind_equal a.kind b.kind both.1)

act_self : (a : Act) → same_act a a ≡ true
act_self a = and_from (a.moment == a.moment) (same_kind a.kind a.kind) (eq-eqb a.moment a.moment refl) (kind_self a.kind)

pub same_acts_are_equal : SameActsAreEqual
same_acts_are_equal a b = (act_equal a b, λ e. subst (λ (other : Act). same_act a other ≡ true) e (act_self a))
