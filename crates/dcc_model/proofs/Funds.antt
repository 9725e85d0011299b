-- Funds stay within their limits, and the entries add up to them.
use Rattle.std.proofs.Common.{◌≡◌, ℕ, ◌+◌, ℤ, pos, ◌+ℤ◌, ◌-ℤ◌, neg_ℤ, ◌≤ℤ◌, Bool, true, false, ◌==◌, cond, List, [], ◌∷◌, ◌++◌, length, reverse, refl, sym, subst, arith, inl, inr, ◌⊎◌, Option, Some, None}
use Rattle.std.specs.Prelude.{int_le, option_map, unwrap_or}
use Rattle.std.specs.List.{cons_option}
use Rattle.std.specs.Option.{option_map_or, option_or, option_to_list}
use Rattle.std.proofs.lemmas.Bool.{cases_Bool}
use Rattle.std.proofs.lemmas.Bool.Decides.{nat_tests}
use Rattle.std.proofs.lemmas.Int.{ints}
use Rattle.std.proofs.lemmas.List.Sums.{sum_by-cons}
use Rattle.dcc_tariff.specs.Prices.{covers}
use Rattle.dcc_tariff.specs.Terms.{TermsView}
use Rattle.dcc_act.specs.Services.{ServiceView}
use Rattle.dcc_act.specs.declared.act.Act.{Act}
use Rattle.dcc_act.specs.declared.one_time_event.Action.{Action}
use Rattle.dcc_act.specs.declared.one_time_event.Action.TheVariants.{DirectDebiting, RefundAccount, CheckBalance, PriceEnquiry}
use Rattle.dcc_act.specs.declared.one_time_event.OneTimeEvent.{OneTimeEvent}
use Rattle.dcc_act.specs.declared.act.Kind.{Kind}
use Rattle.dcc_act.specs.declared.act.Kind.TheVariants as kind
use Rattle.dcc_act.specs.declared.top_up.TopUp.{TopUp}
use Rattle.dcc_act.specs.declared.entry.Entry.{Entry}
use Rattle.dcc_act.specs.declared.grant.Grant.{Grant}
use Rattle.dcc_act.specs.declared.outcome.Outcome.{Outcome}
use Rattle.dcc_act.specs.declared.outcome.RequestType.{RequestType}
use Rattle.dcc_act.specs.declared.request_key.RequestKey.{RequestKey}
use Rattle.dcc_model.specs.declared.done.Done.{Done}
use Rattle.dcc_model.specs.declared.decide.TheConstants.{CEILING}
use Rattle.dcc_model.specs.declared.decide.EventResult.{EventResult}
use Rattle.dcc_model.specs.Results.{is_added, is_success, refused}
use Rattle.dcc_model.specs.Sessions.{Sid, looked_at, accepted_by}
use Rattle.dcc_model.specs.Money.{asked_units, charged_by, charged_event, refunded_by, refunded_event, grant_price, charge, charges, charged, credit, debit, funds_of, reserved_of}
use Rattle.dcc_model.specs.Outcomes.{is_made, is_over, is_under, top_up_outcome, acted, event_result, decided, served, reported, history, after, is_new, funds}
use Rattle.dcc_model.specs.Entries.{debit_entry, refund_entry, charge_entry, charge_entries, entries_of_kind, entries_by, entries_of, entries, sum_of}
use Rattle.dcc_model.specs.Laws.{FundsAreLimited, ChargesAreBorne, EntriesAddUp}
use Rattle.dcc_model.proofs.Histories.{judged_new}
use Rattle.dcc_model.proofs.Served.{reported_cases}

pub covers_parts : (money : ℤ) (cost : ℕ) → covers money cost ≡ true → (cost ≡ 0) ⊎ (pos cost ≤ℤ money)
covers_parts money cost h =
    elim (cases_Bool (cost == 0)) [
      | inl t ↦ inl (grind (arith, nat_tests))
      | inr f ↦ let le : int_le (pos cost) money ≡ true = rw f at h in inr (grind (arith, ints))
    ]

-- funds within their limits
pub record AreFunds (funds : ℤ) : Type 0 where
  pub low : neg_ℤ CEILING ≤ℤ funds
  pub high : funds ≤ℤ CEILING

unmoved : (funds : ℤ) → AreFunds funds → AreFunds ((funds +ℤ pos 0) -ℤ pos 0)
unmoved funds are = let low = are.low in let high = are.high in record { low = omega (arith, ints); high = omega (arith, ints) }

lifted : (funds : ℤ) (amount : ℕ) → AreFunds funds → is_over funds amount ≡ false → AreFunds ((funds +ℤ pos amount) -ℤ pos 0)
lifted funds amount are under =
    let low = are.low in
    let high = are.high in
    record { low = omega (arith, ints); high = grind (arith, ints) }

topped_up : (funds : ℤ) (top_up : TopUp) → AreFunds funds → AreFunds ((funds +ℤ pos (cond (is_added (top_up_outcome funds top_up)) top_up.amount 0)) -ℤ pos 0)
topped_up funds top_up are =
    elim (cases_Bool (is_over funds top_up.amount)) [
      | inl t ↦ rw t (unmoved funds are)
      | inr f ↦ rw f (lifted funds top_up.amount are f)
    ]

-- what is paid from what is free, which is at most the funds
paid : (funds : ℤ) (reserved cost : ℕ) → AreFunds funds → covers (funds -ℤ pos reserved) cost ≡ true → AreFunds ((funds +ℤ pos 0) -ℤ pos (cost + 0))
paid funds reserved cost are covered =
    let low = are.low in
    let high = are.high in
    elim (covers_parts (funds -ℤ pos reserved) cost covered) [
      | inl none ↦ record { low = omega (arith, ints); high = omega (arith, ints) }
      | inr le ↦ record { low = omega (arith, ints); high = omega (arith, ints) }
    ]

-- the funds after an event of this kind that came to this result
abbrev moved : ℤ → Action → Option Grant → EventResult → ℤ
moved funds action asked found =
    (funds +ℤ pos (option_map_or grant_price (cond (is_success found.result) (refunded_by action asked) None) 0))
    -ℤ pos (option_map_or grant_price (cond (is_success found.result) (charged_by action asked) None) 0 + 0)

acted_on : (funds : ℤ) (reserved : ℕ) (action : Action) (grant : Grant) → AreFunds funds → AreFunds (moved funds action (Some grant) (acted funds (funds -ℤ pos reserved) action grant))
acted_on funds reserved DirectDebiting grant are =
    elim (cases_Bool (covers (funds -ℤ pos reserved) (grant_price grant))) [
      | inl t ↦ rw t (paid funds reserved (grant_price grant) are t)
      | inr f ↦ rw f (unmoved funds are)
    ]
acted_on funds reserved RefundAccount grant are =
    elim (cases_Bool (is_over funds (grant_price grant))) [
      | inl t ↦ rw t (unmoved funds are)
      | inr f ↦ rw f (lifted funds (grant_price grant) are f)
    ]
acted_on funds reserved CheckBalance grant are = unmoved funds are
acted_on funds reserved PriceEnquiry grant are = unmoved funds are

resulted : (funds : ℤ) (reserved : ℕ) (action : Action) (asked : Option Grant) → AreFunds funds → AreFunds (moved funds action asked (event_result funds (funds -ℤ pos reserved) action asked))
resulted funds reserved action None are = unmoved funds are
resulted funds reserved action (Some grant) are = acted_on funds reserved action grant are

-- a report is refused where its charges would pass the floor
floor_bears : (terms : TermsView) (past : List Done) (type : RequestType) (key : RequestKey) (services : List ServiceView)
    → (refused (reported terms past type key services) ≡ true) ⊎ (is_under (funds_of terms past) (charges terms past key.sid services) ≡ false)
floor_bears terms past type key services = elim (reported_cases terms past type key services) [ inl served ↦ inr served.1.borne | inr t ↦ inl t ]

borne : (funds : ℤ) (cost : ℕ) → AreFunds funds → is_under funds cost ≡ false → AreFunds ((funds +ℤ pos 0) -ℤ pos (0 + cost))
borne funds cost are within =
    let low = are.low in
    let high = are.high in
    record { low = grind (arith, ints); high = omega (arith, ints) }

updated : (funds : ℤ) (sid : Sid) (cost : Sid → ℕ) (is_refused : Bool) → AreFunds funds → (is_refused ≡ true) ⊎ (is_under funds (cost sid) ≡ false)
    → AreFunds ((funds +ℤ pos 0) -ℤ pos (0 + option_map_or cost (option_or (cond is_refused None (Some sid)) None) 0))
updated funds sid cost true are h = unmoved funds are
updated funds sid cost false are (inl t) = absurd cc
updated funds sid cost false are (inr f) = borne funds (cost sid) are f

terminated : (funds : ℤ) (sid : Sid) (cost : Sid → ℕ) (is_refused : Bool) → AreFunds funds → (is_refused ≡ true) ⊎ (is_under funds (cost sid) ≡ false)
    → AreFunds ((funds +ℤ pos 0) -ℤ pos (0 + option_map_or cost (cond is_refused None (Some sid)) 0))
terminated funds sid cost true are h = unmoved funds are
terminated funds sid cost false are (inl t) = absurd cc
terminated funds sid cost false are (inr f) = borne funds (cost sid) are f

-- an act that came to this
abbrev pub done_as : ℕ → Kind → Outcome → Done
done_as moment kind outcome = record { act = record { moment = moment; kind = kind }; outcome = outcome }

decided_funds : (terms : TermsView) (past : List Done) (moment : ℕ) (k : Kind) → AreFunds (funds_of terms past)
    → AreFunds (funds_of terms (done_as moment k (decided terms past moment k) ∷ past))
decided_funds terms past moment (kind.TopUp top_up) are = topped_up (funds_of terms past) top_up are
decided_funds terms past moment (kind.Initial opening limit host) are = unmoved (funds_of terms past) are
decided_funds terms past moment (kind.Update report) are =
    updated (funds_of terms past) report.key.sid (λ sid. charges terms past sid (looked_at (kind.Update report))) (refused (decided terms past moment (kind.Update report))) are
    (floor_bears terms past _ report.key (looked_at (kind.Update report)))
decided_funds terms past moment (kind.Termination report) are =
    terminated (funds_of terms past) report.key.sid (λ sid. charges terms past sid (looked_at (kind.Termination report))) (refused (decided terms past moment (kind.Termination report))) are
    (floor_bears terms past _ report.key (looked_at (kind.Termination report)))
decided_funds terms past moment (kind.Event event) are = resulted (funds_of terms past) (reserved_of terms past) event.action (asked_units event.service) are
decided_funds terms past moment kind.Expiry are = unmoved (funds_of terms past) are

history_funds : (terms : TermsView) (all : List Act) → AreFunds (funds_of terms (history terms all))
history_funds terms [] = record { low = omega (arith, ints); high = omega (arith, ints) }
history_funds terms (act ∷ earlier) =
    let past = history terms earlier in
    let before = history_funds terms earlier in
    elim (cases_Bool (is_made terms past act)) [
      | inl t ↦ rw t (
          let is = judged_new terms past act t in
          subst (λ (outcome : Outcome). AreFunds (funds_of terms (record { act = act; outcome = outcome } ∷ past))) (sym is) (decided_funds terms past act.moment act.kind before))
      | inr f ↦ rw f before
    ]

pub funds_are_limited : FundsAreLimited
unfolding funds
funds_are_limited terms xs = let are = history_funds terms (reverse xs) in (are.low, are.high)

-- what the floor bears is at most what lies above it
update_borne : (funds : ℤ) (sid : Sid) (cost : Sid → ℕ) (is_refused : Bool) → AreFunds funds → (is_refused ≡ true) ⊎ (is_under funds (cost sid) ≡ false)
    → pos (option_map_or cost (option_or (cond is_refused None (Some sid)) None) 0) ≤ℤ (CEILING +ℤ CEILING)
update_borne funds sid cost true are h = omega (arith, ints)
update_borne funds sid cost false are (inl t) = absurd cc
update_borne funds sid cost false are (inr f) = let high = are.high in grind (arith, ints)

termination_borne : (funds : ℤ) (sid : Sid) (cost : Sid → ℕ) (is_refused : Bool) → AreFunds funds → (is_refused ≡ true) ⊎ (is_under funds (cost sid) ≡ false)
    → pos (option_map_or cost (cond is_refused None (Some sid)) 0) ≤ℤ (CEILING +ℤ CEILING)
termination_borne funds sid cost true are h = omega (arith, ints)
termination_borne funds sid cost false are (inl t) = absurd cc
termination_borne funds sid cost false are (inr f) = let high = are.high in grind (arith, ints)

decided_borne : (terms : TermsView) (past : List Done) (moment : ℕ) (k : Kind) → AreFunds (funds_of terms past)
    → pos (charged terms past (done_as moment k (decided terms past moment k))) ≤ℤ (CEILING +ℤ CEILING)
decided_borne terms past moment (kind.TopUp top_up) are = omega (arith, ints)
decided_borne terms past moment (kind.Initial opening limit host) are = omega (arith, ints)
decided_borne terms past moment (kind.Update report) are =
    update_borne (funds_of terms past) report.key.sid (λ sid. charges terms past sid (looked_at (kind.Update report))) (refused (decided terms past moment (kind.Update report))) are
    (floor_bears terms past _ report.key (looked_at (kind.Update report)))
decided_borne terms past moment (kind.Termination report) are =
    termination_borne (funds_of terms past) report.key.sid (λ sid. charges terms past sid (looked_at (kind.Termination report))) (refused (decided terms past moment (kind.Termination report))) are
    (floor_bears terms past _ report.key (looked_at (kind.Termination report)))
decided_borne terms past moment (kind.Event event) are = omega (arith, ints)
decided_borne terms past moment kind.Expiry are = omega (arith, ints)

pub charges_are_borne : ChargesAreBorne
unfolding after is_new
charges_are_borne terms xs act new =
    let past = history terms (reverse xs) in
    subst (λ (outcome : Outcome). pos (charged terms past (record { act = act; outcome = outcome })) ≤ℤ (CEILING +ℤ CEILING)) (sym (judged_new terms past act new))
    (decided_borne terms past act.moment act.kind (history_funds terms (reverse xs)))

pub sum_of-append : (xs ys : List Entry) → sum_of (xs ++ ys) ≡ sum_of xs +ℤ sum_of ys
sum_of-append [] ys = omega (arith, ints)
sum_of-append (x ∷ xs) ys = let rest = sum_of-append xs ys in omega (arith, ints)

sum_of_debit : (place moment : ℕ) (event : OneTimeEvent) (grant : Option Grant)
    → sum_of (option_to_list (option_map (debit_entry place moment event) grant)) ≡ pos 0 -ℤ pos (option_map_or grant_price grant 0)
sum_of_debit place moment event None = omega (arith, ints)
sum_of_debit place moment event (Some grant) = omega (arith, ints)

sum_of_refund : (place moment : ℕ) (event : OneTimeEvent) (grant : Option Grant)
    → sum_of (option_to_list (option_map (refund_entry place moment event) grant)) ≡ pos (option_map_or grant_price grant 0)
sum_of_refund place moment event None = omega (arith, ints)
sum_of_refund place moment event (Some grant) = omega (arith, ints)

one_charge : (place moment : ℕ) (sid : Sid) (service : ServiceView) (cost : Option ℕ) (rest : List Entry)
    → sum_of (cons_option (option_map (charge_entry place moment sid service) cost) rest) ≡ sum_of rest -ℤ pos (unwrap_or cost 0)
one_charge place moment sid service None rest = omega (arith, ints)
one_charge place moment sid service (Some cost) rest = omega (arith, ints)

sum_of_charges : (terms : TermsView) (past : List Done) (place moment : ℕ) (sid : Sid) (services : List ServiceView)
    → sum_of (charge_entries terms past place moment sid services) ≡ pos 0 -ℤ pos (charges terms past sid services)
sum_of_charges terms past place moment sid [] = omega (arith, ints)
sum_of_charges terms past place moment sid (service ∷ services) =
    let rest = sum_of_charges terms past place moment sid services in
    let first = one_charge place moment sid service (charge terms past sid service) (charge_entries terms past place moment sid services) in
    let both = sum_by-cons (λ service. unwrap_or (charge terms past sid service) 0) service services in
    omega (arith, ints)

sum_of_reports : (terms : TermsView) (past : List Done) (place moment : ℕ) (sid : Option Sid) (services : List ServiceView)
    → sum_of (option_map_or (λ own. charge_entries terms past place moment own services) sid [])
    ≡ (pos 0) -ℤ pos (0 + option_map_or (λ own. charges terms past own services) sid 0)
sum_of_reports terms past place moment None services = omega (arith, ints)
sum_of_reports terms past place moment (Some own) services = let sum = sum_of_charges terms past place moment own services in omega (arith, ints)

-- an act's entries add up to what it added, less what it took
sum_of_kind : (terms : TermsView) (past : List Done) (place moment : ℕ) (k : Kind) (outcome : Outcome)
    → sum_of (entries_of_kind terms past place moment k outcome) ≡ pos (credit k outcome) -ℤ pos (debit k outcome + charged terms past (done_as moment k outcome))
sum_of_kind terms past place moment (kind.TopUp top_up) outcome =
    elim (cases_Bool (is_added outcome)) [
      | inl t ↦ rw t (omega (arith, ints))
      | inr f ↦ rw f (omega (arith, ints))
    ]
sum_of_kind terms past place moment (kind.Initial opening limit host) outcome = omega (arith, ints)
sum_of_kind terms past place moment (kind.Update report) outcome =
    let sum = sum_of_reports terms past place moment (accepted_by (kind.Update report) outcome) (looked_at (kind.Update report)) in omega (arith, ints)
sum_of_kind terms past place moment (kind.Termination report) outcome =
    let sum = sum_of_reports terms past place moment (accepted_by (kind.Termination report) outcome) (looked_at (kind.Termination report)) in omega (arith, ints)
sum_of_kind terms past place moment (kind.Event event) outcome =
    let debits = option_to_list (option_map (debit_entry place moment event) (charged_event event outcome)) in
    let refunds = option_to_list (option_map (refund_entry place moment event) (refunded_event event outcome)) in
    let taken = sum_of_debit place moment event (charged_event event outcome) in
    let given = sum_of_refund place moment event (refunded_event event outcome) in
    let both = sum_of-append debits refunds in
    omega (arith, ints)
sum_of_kind terms past place moment kind.Expiry outcome = omega (arith, ints)

sum_of_entries : (terms : TermsView) (past : List Done) → sum_of (entries_of terms past) ≡ funds_of terms past
sum_of_entries terms [] = refl
sum_of_entries terms (done ∷ past) =
    let before = sum_of_entries terms past in
    let here = sum_of_kind terms past (length past + 1) done.act.moment done.act.kind done.outcome in
    let both = sum_of-append (entries_of terms past) (entries_by terms past done) in
    omega (arith, ints)

pub entries_add_up : EntriesAddUp
unfolding entries funds
entries_add_up terms xs = sum_of_entries terms (history terms (reverse xs))
