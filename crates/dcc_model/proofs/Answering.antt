-- The answers to the services of a request, one after another.
use Rattle.std.proofs.Common.{◌≡◌, ◌&&◌, ℕ, suc, ◌+◌, ◌<◌, ◌≤◌, true, List, [], ◌∷◌, ◌++◌, length, take, drop, get_or, map, sum_by, refl, sym, ap, ◌∙◌, arith, inl, inr, Option, Some, None, is_none, ◌==◌}
use Rattle.std.specs.Prelude.{nat_le}
use Rattle.std.specs.Prelude.{ℤ, pos, filter_map, option_map}
use Rattle.std.specs.Option.{option_to_list}
use Rattle.std.proofs.lemmas.Bool.{cases_Bool, and_parts}
use Rattle.std.proofs.lemmas.Bool.Decides.{nat_tests}
use Rattle.std.specs.List.{list_all}
use Rattle.std.proofs.lemmas.List.{take_more, length-map}
use Rattle.std.proofs.lemmas.List.Elements.{filter_map-append}
use Rattle.std.proofs.lemmas.List.Sums.{sum_by-cons, sum_by_push}
use Rattle.std.proofs.Math.Seq.{drop-cons}
use Rattle.std.proofs.lemmas.List.{append_assoc}
use Rattle.dcc_tariff.specs.Terms.{TermsView}
use Rattle.dcc_tariff.specs.Prices.{best}
use Rattle.dcc_act.specs.Services.{ServiceView, service_key, is_multi, stand_right, are_services}
use Rattle.dcc_act.specs.ServiceKeys.{are_apart}
use Rattle.dcc_act.specs.declared.entry.Entry.{Entry}
use Rattle.dcc_act.specs.declared.grant.Grant.{Grant}
use Rattle.dcc_act.specs.declared.limits.TheConstants.{MAX_SERVICES, MAX_IDS}
use Rattle.dcc_act.specs.declared.outcome.ServiceAnswer.{ServiceAnswer}
use Rattle.dcc_model.specs.declared.done.Done.{Done}
use Rattle.dcc_model.specs.Sessions.{Sid, without_report, without_asked}
use Rattle.dcc_model.specs.declared.judgement.Standing.{Standing}
use Rattle.dcc_model.specs.Money.{asked_units, is_unrated, charge, room, funds_of, free_of, overrun_of}
use Rattle.dcc_model.specs.Outcomes.{granted, granted_within, asked_answer, answer_to, answers, standing_of}
use Rattle.dcc_model.specs.Entries.{charge_entry, charge_entries}

abbrev pub count_ids : List ServiceView → ℕ
count_ids services = sum_by (λ (service : ServiceView). length service.ids) services

abbrev pub count_answered : List ServiceAnswer → ℕ
count_answered made = sum_by (λ (answer : ServiceAnswer). length answer.ids) made

pub few_ids : (services : List ServiceView) → are_services services ≡ true → count_ids services ≤ MAX_IDS
few_ids services h =
    let few = nat_le (length services) MAX_SERVICES in
    let short = nat_le (count_ids services) MAX_IDS in
    let apart = are_apart (map service_key services) in
    let keyed = (and_parts ((few && short) && apart) (stand_right services) h).0 in
    let le = (and_parts few short (and_parts (few && short) apart keyed).0).1 in
    grind (arith, nat_tests)

pub apart_of : (services : List ServiceView) → are_services services ≡ true → are_apart (map service_key services) ≡ true
apart_of services h =
    let few = nat_le (length services) MAX_SERVICES in
    let short = nat_le (count_ids services) MAX_IDS in
    let apart = are_apart (map service_key services) in
    (and_parts (few && short) apart (and_parts ((few && short) && apart) (stand_right services) h).0).1

pub ids_without_report : (services : List ServiceView) → count_ids (map without_report services) ≡ count_ids services
ids_without_report [] = refl
ids_without_report (service ∷ services) =
    sum_by-cons (λ (service : ServiceView). length service.ids) (without_report service) (map without_report services)
    ∙ ap (λ (n : ℕ). length service.ids + n) (ids_without_report services)
    ∙ sym (sum_by-cons (λ (service : ServiceView). length service.ids) service services)

pub ids_without_asked : (services : List ServiceView) → count_ids (map without_asked services) ≡ count_ids services
ids_without_asked [] = refl
ids_without_asked (service ∷ services) =
    sum_by-cons (λ (service : ServiceView). length service.ids) (without_asked service) (map without_asked services)
    ∙ ap (λ (n : ℕ). length service.ids + n) (ids_without_asked services)
    ∙ sym (sum_by-cons (λ (service : ServiceView). length service.ids) service services)

-- a request's services stay within its limits where each keeps its key, its identifiers and its form
keys_alike : (f : ServiceView → ServiceView) → ((service : ServiceView) → service_key (f service) ≡ service_key service) → (services : List ServiceView)
    → map service_key (map f services) ≡ map service_key services
keys_alike f same [] = refl
keys_alike f same (service ∷ services) = rw (same service, keys_alike f same services) refl

forms_alike : (f : ServiceView → ServiceView) → ((service : ServiceView) → (f service).form ≡ service.form) → (services : List ServiceView)
    → list_all (λ (service : ServiceView). is_multi service.form) (map f services) ≡ list_all (λ (service : ServiceView). is_multi service.form) services
forms_alike f same [] = refl
forms_alike f same (service ∷ services) = rw (same service, forms_alike f same services) refl

limits_alike : (f : ServiceView → ServiceView) (services : List ServiceView) → count_ids (map f services) ≡ count_ids services
    → map service_key (map f services) ≡ map service_key services
    → list_all (λ (service : ServiceView). is_multi service.form) (map f services) ≡ list_all (λ (service : ServiceView). is_multi service.form) services
    → are_services (map f services) ≡ are_services services
limits_alike f services ids keys forms = rw (length-map services f, ids, keys, forms) refl

pub limits_without_report : (services : List ServiceView) → are_services (map without_report services) ≡ are_services services
limits_without_report services =
    limits_alike without_report services (ids_without_report services) (keys_alike without_report (λ service. refl) services) (forms_alike without_report (λ service. refl) services)

pub limits_without_asked : (services : List ServiceView) → are_services (map without_asked services) ≡ are_services services
limits_without_asked services =
    limits_alike without_asked services (ids_without_asked services) (keys_alike without_asked (λ service. refl) services) (forms_alike without_asked (λ service. refl) services)

-- an answer has the identifiers of its service
granted_ids : (service : ServiceView) (asked : Grant) (units : ℕ) → (granted service asked units).ids ≡ service.ids
granted_ids service asked units = elim (cases_Bool (units == 0)) [ inl t ↦ rw t refl | inr f ↦ rw f refl ]

within_ids : (service : ServiceView) (space : ℤ) (asked : Option Grant) → (granted_within service space asked).ids ≡ service.ids
within_ids service space None = refl
within_ids service space (Some asked) = granted_ids service asked (best asked.tariff asked.units space)

pub asked_ids : (service : ServiceView) (space : ℤ) → (asked_answer service space).ids ≡ service.ids
asked_ids service space = elim (cases_Bool (is_none service.asked)) [ inl t ↦ rw t refl | inr f ↦ rw f (within_ids service space (asked_units service)) ]

pub answer_ids : (terms : TermsView) (past : List Done) (sid : Sid) (service : ServiceView) (space : ℤ) → (answer_to terms past sid service space).ids ≡ service.ids
answer_ids terms past sid service space =
    elim (cases_Bool (is_unrated terms past sid service)) [ inl t ↦ rw t refl | inr f ↦ rw f (asked_ids service space) ]

-- one more service is answered in the room that those before leave
pub answers_more : (terms : TermsView) (past : List Done) (sid : Sid) (services : List ServiceView) (before : List ServiceAnswer) (i : ℕ) (service : ServiceView) (answer : ServiceAnswer)
    → i < length services → service ≡ get_or services i service → answer ≡ answer_to terms past sid service (room terms past sid services before)
    → before ++ answers terms past sid services before (drop i services) ≡ (before ++ answer ∷ []) ++ answers terms past sid services (before ++ answer ∷ []) (drop (i + 1) services)
answers_more terms past sid services before i service answer within is answer_is =
    let next : suc i ≡ i + 1 = omega arith in
    let first : drop i services ≡ service ∷ drop (i + 1) services =
    drop-cons services i service within ∙ ap (λ (s : ServiceView). s ∷ drop (suc i) services) (sym is) ∙ ap (λ (n : ℕ). service ∷ drop n services) next in
    ap (λ (rest : List ServiceView). before ++ answers terms past sid services before rest) first
    ∙ ap (λ (a : ServiceAnswer). before ++ a ∷ answers terms past sid services (before ++ a ∷ []) (drop (i + 1) services)) (sym answer_is)
    ∙ sym (append_assoc before (answer ∷ []) (answers terms past sid services (before ++ answer ∷ []) (drop (i + 1) services)))

pub ids_more : (services : List ServiceView) (made : List ServiceAnswer) (i : ℕ) (service : ServiceView) (answer : ServiceAnswer) → i < length services → service ≡ get_or services i service
    → answer.ids ≡ service.ids → count_answered made ≡ count_ids (take i services) → count_answered (made ++ answer ∷ []) ≡ count_ids (take (i + 1) services)
ids_more services made i service answer within is ids before =
    sum_by_push (λ (answer : ServiceAnswer). length answer.ids) made answer
    ∙ ap (λ (n : ℕ). n + length answer.ids) before ∙ ap (λ (found : List ℕ). count_ids (take i services) + length found) ids
    ∙ sym (ap count_ids (take_more services i service within) ∙ ap (λ (s : ServiceView). count_ids (take i services ++ s ∷ [])) (sym is) ∙ sum_by_push (λ (service : ServiceView). length service.ids) (take i services) service)

one_entry : (entry : Option Entry) (f : ServiceView → Option Entry) (service : ServiceView) → f service ≡ entry → filter_map f (service ∷ []) ≡ option_to_list entry
one_entry None f service is = rw is refl
one_entry (Some entry) f service is = rw is refl

-- the entries of one more report
pub charge_more : (terms : TermsView) (past : List Done) (place moment : ℕ) (sid : Sid) (services : List ServiceView) (i : ℕ) (service : ServiceView) → i < length services → service ≡ get_or services i service
    → charge_entries terms past place moment sid (take (i + 1) services)
    ≡ charge_entries terms past place moment sid (take i services) ++ option_to_list (option_map (charge_entry place moment sid service) (charge terms past sid service))
charge_more terms past place moment sid services i service within is =
    let entry_of : ServiceView → Option Entry = λ service. option_map (charge_entry place moment sid service) (charge terms past sid service) in
    ap (filter_map entry_of) (take_more services i service within) ∙ ap (λ (s : ServiceView). filter_map entry_of (take i services ++ s ∷ [])) (sym is)
    ∙ filter_map-append entry_of (take i services) (service ∷ [])
    ∙ ap (λ (es : List Entry). filter_map entry_of (take i services) ++ es) (one_entry (entry_of service) entry_of service refl)

-- money is known by its three amounts
pub standing_is : (terms : TermsView) (past : List Done) (money : Standing) → money.funds ≡ funds_of terms past → money.free ≡ free_of terms past → money.overrun ≡ pos (overrun_of terms past)
    → money ≡ standing_of terms past
standing_is terms past money funds free overrun =
    let with_funds : ℤ → Standing = λ z. record { funds = z; free = money.free; overrun = money.overrun } in
    let with_free : ℤ → Standing = λ z. record { funds = funds_of terms past; free = z; overrun = money.overrun } in
    let with_overrun : ℤ → Standing = λ z. record { funds = funds_of terms past; free = free_of terms past; overrun = z } in
    ap with_funds funds ∙ ap with_free free ∙ ap with_overrun overrun
