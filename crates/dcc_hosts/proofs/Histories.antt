-- The acts that are made, their places and their entries, without hosts.
use Rattle.std.proofs.Common.{◌≡◌, ℕ, zero, suc, ◌+◌, Bool, true, false, cond, List, [], ◌∷◌, ◌++◌, length, map, take, reverse, filter_map, Option, Some, None, refl, sym, ap, ◌∙◌, option_map}
use Rattle.std.specs.Prelude.{slice_get}
use Rattle.std.specs.Option.{option_map_or}
use Rattle.std.proofs.lemmas.List.{reverse-append, map-append}
use Rattle.dcc_tariff.specs.Terms.{TermsView}
use Rattle.dcc_act.specs.Services.{ServiceView}
use Rattle.dcc_act.specs.declared.act.Act.{Act}
use Rattle.dcc_act.specs.declared.act.Kind.{Kind}
use Rattle.dcc_act.specs.declared.act.Kind.TheVariants as kind
use Rattle.dcc_act.specs.declared.entry.Entry.{Entry}
use Rattle.dcc_act.specs.declared.outcome.Outcome.{Outcome}
use Rattle.dcc_act.specs.declared.session_limit.SessionLimit.{SessionLimit}
use Rattle.dcc_act.specs.declared.session_request.SessionRequest.{SessionRequest}
use Rattle.dcc_model.specs.declared.done.Done.{Done}
use Rattle.dcc_model.specs.Keys.{same_key}
use Rattle.dcc_model.specs.Sessions.{Sid, looked_at, accepted_by}
use Rattle.dcc_model.specs.Outcomes.{judged, is_made, with_act, history, act_made, place_of_key, place_of}
use Rattle.dcc_model.specs.Entries.{charge_entry, entries_of_kind, entries_by, entries_of}
use Rattle.dcc_hosts.specs.Hosts.{unhosted}
use Rattle.dcc_hosts.proofs.Blind.{blind_kind, blind, without, length_without}
use Rattle.dcc_hosts.proofs.Money.{charge_same}
use Rattle.dcc_hosts.proofs.Outcomes.{judged_same, is_made_same}

abbrev with_by : Bool → Act → Outcome → List Done → List Done
with_by is act outcome past = cond is (record { act = act; outcome = outcome } ∷ past) past

with_cases : (is : Bool) (act : Act) (outcome : Outcome) (past : List Done) → with_by is (unhosted act) outcome (without past) ≡ without (with_by is act outcome past)
with_cases true act outcome past = refl
with_cases false act outcome past = refl

with_same : (terms : TermsView) (past : List Done) (act : Act) → with_act terms (without past) (unhosted act) ≡ without (with_act terms past act)
with_same terms past act =
    ap (λ (is : Bool). with_by is (unhosted act) (judged terms (without past) (unhosted act)) (without past)) (is_made_same terms past act)
    ∙ ap (λ (outcome : Outcome). with_by (is_made terms past act) (unhosted act) outcome (without past)) (judged_same terms past act)
    ∙ with_cases (is_made terms past act) act (judged terms past act) past

history_unhosted : (terms : TermsView) (all : List Act) → history terms (map unhosted all) ≡ without (history terms all)
history_unhosted terms [] = refl
history_unhosted terms (act ∷ earlier) =
    ap (λ (past : List Done). with_act terms past (unhosted act)) (history_unhosted terms earlier) ∙ with_same terms (history terms earlier) act

pub reverse_unhosted : (xs : List Act) → reverse (map unhosted xs) ≡ map unhosted (reverse xs)
reverse_unhosted [] = refl
reverse_unhosted (x ∷ xs) =
    reverse-append (unhosted x ∷ []) (map unhosted xs)
    ∙ ap (λ (zs : List Act). zs ++ unhosted x ∷ []) (reverse_unhosted xs)
    ∙ sym (map-append unhosted (reverse xs) (x ∷ []))
    ∙ ap (map unhosted) (sym (reverse-append (x ∷ []) xs))

-- the past of a list without hosts is that of the list, without hosts
pub past_unhosted : (terms : TermsView) (xs : List Act) → history terms (reverse (map unhosted xs)) ≡ without (history terms (reverse xs))
past_unhosted terms xs = ap (history terms) (reverse_unhosted xs) ∙ history_unhosted terms (reverse xs)

pub made_without : (past : List Done) → map act_made (without past) ≡ map unhosted (map act_made past)
made_without [] = refl
made_without (done ∷ past) = ap (λ (acts : List Act). unhosted done.act ∷ acts) (made_without past)

length_unhosted : (acts : List Act) → length (map unhosted acts) ≡ length acts
length_unhosted [] = refl
length_unhosted (act ∷ acts) = rw (length_unhosted acts) refl

key_place_same : (acts : List Act) (k : Kind) → place_of_key (map unhosted acts) k ≡ place_of_key acts k
key_place_same [] k = refl
key_place_same (act ∷ acts) k =
    blind_kind (λ (own : Kind). place_of_key (record { moment = act.moment; kind = own } ∷ map unhosted acts) k) (λ opening limit host. refl) act.kind
    ∙ ap (λ (n : ℕ). cond (same_key k act.kind) (Some (n + 1)) (place_of_key (map unhosted acts) k)) (length_unhosted acts)
    ∙ ap (λ (found : Option ℕ). cond (same_key k act.kind) (Some (length acts + 1)) found) (key_place_same acts k)

-- nor is a place looked for by a host
key_place_blind : (acts : List Act) (opening : SessionRequest) (limit : SessionLimit) (host : Option (List ℕ))
    → place_of_key acts (kind.Initial opening limit None) ≡ place_of_key acts (kind.Initial opening limit host)
key_place_blind [] opening limit host = refl
key_place_blind (act ∷ acts) opening limit host =
    ap (λ (found : Option ℕ). cond (same_key (kind.Initial opening limit host) act.kind) (Some (length acts + 1)) found) (key_place_blind acts opening limit host)

abbrev place_by : Bool → ℕ → List Act → Kind → Option ℕ
place_by is n acts k = cond is (Some (n + 1)) (place_of_key acts k)

pub place_same : (terms : TermsView) (past : List Done) (act : Act) → place_of terms (without past) (unhosted act) ≡ place_of terms past act
place_same terms past act =
    ap (λ (is : Bool). place_by is (length (without past)) (map act_made (without past)) (unhosted act).kind) (is_made_same terms past act)
    ∙ blind_kind (λ (k : Kind). place_by (is_made terms past act) (length (without past)) (map act_made (without past)) k)
    (λ opening limit host. ap (λ (found : Option ℕ). cond (is_made terms past act) (Some (length (without past) + 1)) found) (key_place_blind (map act_made (without past)) opening limit host)) act.kind
    ∙ ap (λ (n : ℕ). place_by (is_made terms past act) n (map act_made (without past)) act.kind) (length_without past)
    ∙ ap (λ (acts : List Act). place_by (is_made terms past act) (length past) acts act.kind) (made_without past)
    ∙ ap (λ (found : Option ℕ). cond (is_made terms past act) (Some (length past + 1)) found) (key_place_same (map act_made past) act.kind)

-- the entries of an accepted request's reports, by the charge for each
abbrev entries_from : (Sid → ServiceView → Option ℕ) → ℕ → ℕ → Kind → Outcome → List Entry
entries_from by place moment k outcome =
    option_map_or (λ sid. filter_map (λ service. option_map (charge_entry place moment sid service) (by sid service)) (looked_at k)) (accepted_by k outcome) []

kind_entries_same : (terms : TermsView) (past : List Done) (place moment : ℕ) (k : Kind) (outcome : Outcome)
    → entries_of_kind terms (without past) place moment k outcome ≡ entries_of_kind terms past place moment k outcome
kind_entries_same terms past place moment (kind.TopUp top_up) outcome = refl
kind_entries_same terms past place moment (kind.Initial opening limit host) outcome = refl
kind_entries_same terms past place moment (kind.Update report) outcome =
    ap (λ (by : Sid → ServiceView → Option ℕ). entries_from by place moment (kind.Update report) outcome) (charge_same terms past)
kind_entries_same terms past place moment (kind.Termination report) outcome =
    ap (λ (by : Sid → ServiceView → Option ℕ). entries_from by place moment (kind.Termination report) outcome) (charge_same terms past)
kind_entries_same terms past place moment (kind.Event event) outcome = refl
kind_entries_same terms past place moment kind.Expiry outcome = refl

pub entries_same : (terms : TermsView) (past : List Done) → entries_of terms (without past) ≡ entries_of terms past
entries_same terms [] = refl
entries_same terms (done ∷ past) =
    blind (λ (d : Done). entries_of terms (d ∷ without past)) (λ moment outcome opening limit host. refl) done
    ∙ ap (λ (n : ℕ). entries_of terms (without past) ++ entries_of_kind terms (without past) (n + 1) done.act.moment done.act.kind done.outcome) (length_without past)
    ∙ ap (λ (own : List Entry). entries_of terms (without past) ++ own) (kind_entries_same terms past (length past + 1) done.act.moment done.act.kind done.outcome)
    ∙ ap (λ (before : List Entry). before ++ entries_by terms past done) (entries_same terms past)

pub take_unhosted : (n : ℕ) (xs : List Act) → take n (map unhosted xs) ≡ map unhosted (take n xs)
take_unhosted zero xs = refl
take_unhosted (suc n) [] = refl
take_unhosted (suc n) (x ∷ xs) = ap (λ (zs : List Act). unhosted x ∷ zs) (take_unhosted n xs)

pub get_unhosted : (xs : List Act) (n : ℕ) → slice_get (map unhosted xs) n ≡ option_map unhosted (slice_get xs n)
get_unhosted [] n = refl
get_unhosted (x ∷ xs) zero = refl
get_unhosted (x ∷ xs) (suc n) = get_unhosted xs n
