-- The judged change stands on the money that its request finds.
use Rattle.std.proofs.Common.{◌≡◌, ℕ, ℤ, neg_ℤ, ◌≤ℤ◌, true, false, ◌&&◌, ◌||◌, cond, List, [], ◌∷◌, map, refl, sym, ap, subst, ◌∙◌, inl, inr, Option, Some, None, arith}
use Rattle.std.specs.Option.{option_map_or}
use Rattle.std.specs.Prelude.{is_none, filter_map, nat_le, length}
use Rattle.std.proofs.lemmas.Bool.{cases_Bool, and_parts}
use Rattle.std.proofs.lemmas.Int.{ints}
use Rattle.dcc_tariff.specs.Prices.{covers}
use Rattle.dcc_tariff.specs.Terms.{TermsView}
use Rattle.dcc_act.specs.Limits.{most_sessions}
use Rattle.dcc_act.specs.ServiceKeys.{are_apart}
use Rattle.dcc_act.specs.Services.{ServiceView, service_key}
use Rattle.dcc_act.specs.declared.act.Act.{Act}
use Rattle.dcc_act.specs.declared.act.Kind.{Kind}
use Rattle.dcc_act.specs.declared.act.Kind.TheVariants as kind
use Rattle.dcc_act.specs.declared.grant.Grant.{Grant}
use Rattle.dcc_act.specs.declared.one_time_event.Action.{Action}
use Rattle.dcc_act.specs.declared.one_time_event.Action.TheVariants.{DirectDebiting, RefundAccount, CheckBalance, PriceEnquiry}
use Rattle.dcc_act.specs.declared.outcome.Outcome.{Outcome}
use Rattle.dcc_act.specs.declared.outcome.RequestType.{RequestType}
use Rattle.dcc_act.specs.declared.outcome.RequestType.TheVariants as request
use Rattle.dcc_act.specs.declared.request_key.RequestKey.{RequestKey}
use Rattle.dcc_act.specs.declared.service_key.ServiceKey.{ServiceKey}
use Rattle.dcc_act.specs.declared.session_limit.SessionLimit.{SessionLimit}
use Rattle.dcc_act.specs.declared.top_up.TopUp.{TopUp}
use Rattle.dcc_model.specs.declared.decide.TheConstants.{CEILING}
use Rattle.dcc_model.specs.Keys.{request_key, is_expiry}
use Rattle.dcc_model.specs.Laws.{IsKeyed, services_of}
use Rattle.dcc_model.specs.Money.{grant_price, asked_units, charged_by, refunded_by, credit, debit}
use Rattle.dcc_model.specs.Outcomes.{is_under, is_over, top_up_outcome, event_result}
use Rattle.dcc_model.specs.Results.{is_success, succeeded, refused, answers_of}
use Rattle.dcc_model.specs.Sessions.{looked_at, without_report, without_asked}
use Rattle.dcc_session.specs.declared.held.Held.{Held}
use Rattle.dcc_session.specs.Grants.{prices, charges_in}
use Rattle.dcc_state.specs.declared.change.Change.{Change}
use Rattle.dcc_state.specs.declared.change.Turn.{Turn}
use Rattle.dcc_state.specs.declared.facts.Facts.{Facts}
use Rattle.dcc_state.specs.OpenSessions.{SessionView, own_in}
use Rattle.dcc_state.specs.Backed.{held_by, IsBorne, IsPosted, GoesOn, IsBacked}
use Rattle.dcc_state.specs.inner.Grants.{answers_in}
use Rattle.dcc_state.specs.inner.Judged.{is_open_in, begun_in, reported_in, decided_in, judged_in, is_made_in, turn_after, change_of}
use Rattle.dcc_state.proofs.Backing.{covers_parts, all_covered, prices_made, grants_apart, grants_named}
use Rattle.dcc_state.proofs.Money.{no_charges}

-- what a request's answers grant stands on the money that it finds
served_goes : (funds free : ℤ) (own : List Held) (turn : Turn) → are_apart (map service_key turn.services) ≡ true
    → turn.granted.grants ≡ filter_map held_by (answers_in free own turn.services [] turn.services) → turn.granted.room ≡ length own → IsBorne funds own turn.services
    → turn.name ≡ turn.sid → GoesOn funds free own turn
served_goes funds free own turn apart is room borne named =
    let services = turn.services in
    let answers = answers_in free own services [] services in
    let cost = ap prices is ∙ prices_made answers in
    record {
      borne = borne;
      affordable = elim (all_covered free own services [] services) [
        | inl none ↦ inl (omega arith)
        | inr enough ↦ inr (omega (arith, ints))
      ];
      apart = rw is (grants_apart free own services apart);
      named = rw is (grants_named free own services [] services);
      room = omega arith;
      named_so = named;
    }

-- an update or a termination that isn't refused is served, and the funds bear its charges
reported_served : (facts : Facts) (sessions : List SessionView) (type : RequestType) (key : RequestKey) (services : List ServiceView)
    → refused (reported_in facts sessions type key services) ≡ false
    → (answers_of (reported_in facts sessions type key services) ≡ answers_in facts.standing.free (own_in sessions key.sid) services [] services)
    × IsBorne facts.standing.funds (own_in sessions key.sid) services
reported_served facts sessions type key services h =
    let own = own_in sessions key.sid in
    elim (cases_Bool (is_open_in sessions key.sid)) [
      | inr shut ↦ let no : true ≡ false = rw shut at h in absurd cc
      | inl opened ↦ elim (cases_Bool (is_under facts.standing.funds (charges_in own services))) [
        | inl under ↦ let no : true ≡ false = rw (opened, under) at h in absurd cc
        | inr bears ↦ (rw (opened, bears) refl, (grind (arith, ints, bears)))
      ]
    ]

-- an initial request that succeeds is served
begun_served : (facts : Facts) (sessions : List SessionView) (key : RequestKey) (limit : SessionLimit) (services : List ServiceView)
    → succeeded (begun_in facts sessions key limit services) ≡ true
    → answers_of (begun_in facts sessions key limit services) ≡ answers_in facts.standing.free (own_in sessions key.sid) services [] services
begun_served facts sessions key limit services h =
    elim (cases_Bool facts.was_opened) [
      | inl was ↦ let no : false ≡ true = rw was at h in absurd cc
      | inr fresh ↦ elim (cases_Bool (nat_le (most_sessions limit) (length sessions))) [
        | inl many ↦ let no : false ≡ true = rw (fresh, many) at h in absurd cc
        | inr few ↦ rw (fresh, few) refl
      ]
    ]

-- the services as they are looked at have the same keys
same_keys_reported : (services : List ServiceView) → map service_key (map without_report services) ≡ map service_key services
same_keys_reported [] = refl
same_keys_reported (service ∷ services) = ap (λ (keys : List ServiceKey). service_key service ∷ keys) (same_keys_reported services)

same_keys_asked : (services : List ServiceView) → map service_key (map without_asked services) ≡ map service_key services
same_keys_asked [] = refl
same_keys_asked (service ∷ services) = ap (λ (keys : List ServiceKey). service_key service ∷ keys) (same_keys_asked services)

-- a top-up that is added leaves the funds below the ceiling
top_up_posted : (funds free : ℤ) (top_up : TopUp) → funds ≤ℤ CEILING
    → IsPosted funds free (credit (kind.TopUp top_up) (top_up_outcome funds top_up)) (debit (kind.TopUp top_up) (top_up_outcome funds top_up))
top_up_posted funds free top_up high =
    elim (cases_Bool (is_over funds top_up.amount)) [
      | inl t ↦ rw t (record { covered = inl refl; below = omega (arith, ints) })
      | inr f ↦ rw f (record { covered = inl refl; below = grind (arith, ints, f) })
    ]

-- a direct debit that is made is covered, and a refund leaves the funds below the ceiling
abbrev pub added_by : ℤ → ℤ → Action → Option Grant → ℕ
added_by funds free action asked = option_map_or grant_price (cond (is_success (event_result funds free action asked).result) (refunded_by action asked) None) 0

abbrev pub taken_by : ℤ → ℤ → Action → Option Grant → ℕ
taken_by funds free action asked = option_map_or grant_price (cond (is_success (event_result funds free action asked).result) (charged_by action asked) None) 0

event_posted : (funds free : ℤ) (action : Action) (asked : Option Grant) → funds ≤ℤ CEILING → IsPosted funds free (added_by funds free action asked) (taken_by funds free action asked)
event_posted funds free action None high = record { covered = inl refl; below = omega (arith, ints) }
event_posted funds free DirectDebiting (Some asked) high =
    elim (cases_Bool (covers free (grant_price asked))) [
      | inl t ↦ rw t (record { covered = covers_parts free (grant_price asked) t; below = omega (arith, ints) })
      | inr f ↦ rw f (record { covered = inl refl; below = omega (arith, ints) })
    ]
event_posted funds free RefundAccount (Some asked) high =
    elim (cases_Bool (is_over funds (grant_price asked))) [
      | inl t ↦ rw t (record { covered = inl refl; below = omega (arith, ints) })
      | inr f ↦ rw f (record { covered = inl refl; below = grind (arith, ints, f) })
    ]
event_posted funds free CheckBalance (Some asked) high = record { covered = inl refl; below = omega (arith, ints) }
event_posted funds free PriceEnquiry (Some asked) high = record { covered = inl refl; below = omega (arith, ints) }

-- the change that an act is judged to make stands on the money that it finds
abbrev pub StandsOn : TermsView → Facts → List SessionView → ℕ → Kind → Outcome → Type 0
StandsOn terms facts sessions moment k outcome = IsBacked facts.standing.funds facts.standing.free sessions (change_of terms sessions moment k outcome)

-- what is decided of a new act, by its kind
change_backed : (terms : TermsView) (facts : Facts) (sessions : List SessionView) (moment : ℕ) (k : Kind) → are_apart (map service_key (services_of k)) ≡ true
    → neg_ℤ CEILING ≤ℤ facts.standing.funds → facts.standing.funds ≤ℤ CEILING → StandsOn terms facts sessions moment k (decided_in facts sessions moment k)
change_backed terms facts sessions moment (kind.TopUp top_up) keyed low high = top_up_posted facts.standing.funds facts.standing.free top_up high
change_backed terms facts sessions moment (kind.Event event) keyed low high =
    event_posted facts.standing.funds facts.standing.free event.action (asked_units event.service) high
change_backed terms facts sessions moment kind.Expiry keyed low high = tt
change_backed terms facts sessions moment (kind.Initial opening limit host) keyed low high =
    let services = looked_at (kind.Initial opening limit host) in
    let own = own_in sessions opening.key.sid in
    let outcome = begun_in facts sessions opening.key limit services in
    elim (cases_Bool (succeeded outcome)) [
      | inr f ↦ rw f tt
      | inl t ↦
          let served = begun_served facts sessions opening.key limit services t in
          let nothing = no_charges own opening.services in
          let apart = ap are_apart (same_keys_reported opening.services) ∙ keyed in
          rw t (served_goes facts.standing.funds facts.standing.free own (turn_after terms sessions moment opening.key.sid services outcome) apart (ap (filter_map held_by) served) refl (omega (arith, ints)) refl)
    ]
change_backed terms facts sessions moment (kind.Update report) keyed low high =
    let services = looked_at (kind.Update report) in
    let own = own_in sessions report.key.sid in
    let outcome = reported_in facts sessions request.Update report.key services in
    elim (cases_Bool (refused outcome)) [
      | inl t ↦ rw t tt
      | inr f ↦
          let served = reported_served facts sessions request.Update report.key services f in
          elim (cases_Bool (succeeded outcome)) [
            | inr g ↦ rw (f, g) served.1
            | inl t ↦ rw (f, t) (served_goes facts.standing.funds facts.standing.free own (turn_after terms sessions moment report.key.sid services outcome) keyed (ap (filter_map held_by) served.0) refl served.1 refl)
          ]
    ]
change_backed terms facts sessions moment (kind.Termination report) keyed low high =
    let services = looked_at (kind.Termination report) in
    let outcome = reported_in facts sessions request.Termination report.key services in
    elim (cases_Bool (refused outcome)) [
      | inl t ↦ rw t tt
      | inr f ↦ rw f (reported_served facts sessions request.Termination report.key services f).1
    ]

-- a new act comes to what is decided of it
decided_new : (facts : Facts) (first : Option Outcome) (sessions : List SessionView) (act : Act) → is_made_in facts first sessions act ≡ true → is_expiry act.kind ≡ false
    → is_none (request_key act.kind) ≡ false → judged_in facts first sessions act ≡ decided_in facts sessions act.moment act.kind
decided_new facts None sessions act made lasting asked =
    let both : ((facts.has_account || is_none (request_key act.kind)) && true) ≡ true = rw lasting at made in
    let either = (and_parts (facts.has_account || is_none (request_key act.kind)) true both).0 in
    elim (cases_Bool facts.has_account) [
      | inl has ↦ rw has refl
      | inr none ↦ let no : false ≡ true = rw (none, asked) at either in absurd cc
    ]
decided_new facts (Some outcome) sessions act made lasting asked =
    let both : ((facts.has_account || is_none (request_key act.kind)) && false) ≡ true = rw lasting at made in
    let no = (and_parts (facts.has_account || is_none (request_key act.kind)) false both).1 in
    absurd cc

-- so does a top-up, also the first
decided_top_up : (facts : Facts) (first : Option Outcome) (sessions : List SessionView) (moment : ℕ) (top_up : TopUp)
    → is_made_in facts first sessions (record { moment = moment; kind = kind.TopUp top_up }) ≡ true
    → judged_in facts first sessions (record { moment = moment; kind = kind.TopUp top_up }) ≡ top_up_outcome facts.standing.funds top_up
decided_top_up facts None sessions moment top_up made = elim (cases_Bool facts.has_account) [ inl has ↦ rw has refl | inr none ↦ rw none refl ]
decided_top_up facts (Some outcome) sessions moment top_up made = let no = (and_parts (facts.has_account || true) false made).1 in absurd cc

-- what a new act does stands on the money that it finds
made_backed : (terms : TermsView) (facts : Facts) (first : Option Outcome) (sessions : List SessionView) (moment : ℕ) (k : Kind) (outcome : Outcome)
    → are_apart (map service_key (services_of k)) ≡ true → neg_ℤ CEILING ≤ℤ facts.standing.funds → facts.standing.funds ≤ℤ CEILING
    → is_made_in facts first sessions (record { moment = moment; kind = k }) ≡ true → outcome ≡ judged_in facts first sessions (record { moment = moment; kind = k })
    → StandsOn terms facts sessions moment k outcome
made_backed terms facts first sessions moment (kind.TopUp top_up) outcome keyed low high made is =
    subst (StandsOn terms facts sessions moment (kind.TopUp top_up)) (sym (is ∙ decided_top_up facts first sessions moment top_up made))
    (change_backed terms facts sessions moment (kind.TopUp top_up) keyed low high)
made_backed terms facts first sessions moment kind.Expiry outcome keyed low high made is = tt
made_backed terms facts first sessions moment (kind.Event event) outcome keyed low high made is =
    let decided = is ∙ decided_new facts first sessions (record { moment = moment; kind = kind.Event event }) made refl refl in
    subst (StandsOn terms facts sessions moment (kind.Event event)) (sym decided) (change_backed terms facts sessions moment (kind.Event event) keyed low high)
made_backed terms facts first sessions moment (kind.Initial opening limit host) outcome keyed low high made is =
    let decided = is ∙ decided_new facts first sessions (record { moment = moment; kind = kind.Initial opening limit host }) made refl refl in
    subst (StandsOn terms facts sessions moment (kind.Initial opening limit host)) (sym decided) (change_backed terms facts sessions moment (kind.Initial opening limit host) keyed low high)
made_backed terms facts first sessions moment (kind.Update report) outcome keyed low high made is =
    let decided = is ∙ decided_new facts first sessions (record { moment = moment; kind = kind.Update report }) made refl refl in
    subst (StandsOn terms facts sessions moment (kind.Update report)) (sym decided) (change_backed terms facts sessions moment (kind.Update report) keyed low high)
made_backed terms facts first sessions moment (kind.Termination report) outcome keyed low high made is =
    let decided = is ∙ decided_new facts first sessions (record { moment = moment; kind = kind.Termination report }) made refl refl in
    subst (StandsOn terms facts sessions moment (kind.Termination report)) (sym decided) (change_backed terms facts sessions moment (kind.Termination report) keyed low high)

pub backed_at : (terms : TermsView) (facts : Facts) (first : Option Outcome) (sessions : List SessionView) (act : Act) (outcome : Outcome) (change : Change)
    → IsKeyed act → neg_ℤ CEILING ≤ℤ facts.standing.funds → facts.standing.funds ≤ℤ CEILING → is_made_in facts first sessions act ≡ true → outcome ≡ judged_in facts first sessions act
    → change ≡ change_of terms sessions act.moment act.kind outcome → IsBacked facts.standing.funds facts.standing.free sessions change
backed_at terms facts first sessions act outcome change keyed low high made is change_is =
    rw change_is (made_backed terms facts first sessions act.moment act.kind outcome keyed low high made is)
