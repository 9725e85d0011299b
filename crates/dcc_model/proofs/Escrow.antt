-- What is reserved never exceeds the funds and the overrun.
use Rattle.std.proofs.Common.{◌≡◌, ℕ, ◌+◌, ◌-◌, ◌≤◌, ℤ, pos, ◌+ℤ◌, ◌-ℤ◌, ◌≤ℤ◌, Bool, true, false, not, ◌&&◌, ◌||◌, List, [], ◌∷◌, ◌++◌, refl, sym, ap, ◌∙◌, arith, inl, inr, ◌⊎◌, filter, filter_map, sum_by, bytes_eq, Option, Some, None, is_some, option_map}
use Rattle.std.specs.Prelude.{unwrap_or}
use Rattle.std.specs.List.{list_any, cons_option}
use Rattle.std.specs.Option.{option_and_then, option_map_or}
use Rattle.std.proofs.lemmas.Bool.{cases_Bool, and_parts, not-true}
use Rattle.std.proofs.lemmas.Int.{ints}
use Rattle.std.proofs.lemmas.List.Filters.{sum_by-filter_both}
use Rattle.std.proofs.lemmas.List.Sums.{sum_by-cons, sum_by-append, sum_by_push}
use Rattle.dcc_tariff.specs.Terms.{TermsView}
use Rattle.dcc_act.specs.Answers.{answer_key}
use Rattle.dcc_act.specs.ServiceKeys.{same_service, are_apart}
use Rattle.dcc_act.specs.Services.{ServiceView, service_key}
use Rattle.dcc_act.specs.declared.grant.Grant.{Grant}
use Rattle.dcc_act.specs.declared.outcome.ServiceAnswer.{ServiceAnswer}
use Rattle.dcc_act.specs.declared.service_key.ServiceKey.{ServiceKey}
use Rattle.dcc_model.specs.declared.done.Done.{Done}
use Rattle.dcc_model.specs.Results.{answers_of}
use Rattle.dcc_model.specs.Sessions.{Sid, Live, is_sid, accepted_by, session_of, ends, names, named, made_by, live_of, lives, goes_on, is_named, looked_at}
use Rattle.dcc_model.specs.Money.{charge, charges, overruns, live_price, held_price, made_price, is_replaced, reserved_of, reserved_beside, charged, overran, credit, debit, funds_of, free_of, overrun_of, room}
use Rattle.dcc_model.specs.Outcomes.{answers}
use Rattle.dcc_model.specs.Laws.{GrantsFit, is_at}
use Rattle.dcc_model.proofs.Sums.{sum_filter_both, sum_filter_more, sum_filter_le}
use Rattle.dcc_model.proofs.Grants.{live_among, same_service-true}
use Rattle.dcc_model.proofs.Funds.{covers_parts}
use Rattle.dcc_model.proofs.Rooms.{grants_fit}

-- a first key is apart from the others, and those from one another
pub apart_parts : (key : ServiceKey) (keys : List ServiceKey) → are_apart (key ∷ keys) ≡ true → (list_any (same_service key) keys ≡ false) × (are_apart keys ≡ true)
apart_parts key keys h =
    let parts = and_parts (not (list_any (same_service key) keys)) (are_apart keys) h in
    (not-true (list_any (same_service key) keys) parts.0, parts.1)

uncharged : (asked : Bool) (price_of : ℕ → Option ℕ) (used : Option ℕ) → (asked || is_some used) ≡ false → unwrap_or (option_and_then price_of used) 0 ≡ 0
uncharged asked price_of None h = refl
uncharged true price_of (Some units) h = absurd cc
uncharged false price_of (Some units) h = absurd cc

and_left : (a b c : Bool) → (a && b) ≡ true → (a && (b || c)) ≡ true
and_left true true c h = refl
and_left true false c h = absurd cc
and_left false b c h = absurd cc

and_right : (a b c : Bool) → (a && c) ≡ true → (a && (b || c)) ≡ true
and_right true true c h = refl
and_right true false c h = h
and_right false b c h = absurd cc

and_false : (a b : Bool) → b ≡ false → (a && b) ≡ false
and_false true b h = h
and_false false b h = refl

not_or : (a b : Bool) → not (a || b) ≡ true → not b ≡ true
not_or true b h = absurd cc
not_or false b h = h

not_both : (terms : TermsView) (past : List Done) (sid : Sid) (service : ServiceView) (services : List ServiceView) (held : Live) → list_any (same_service (service_key service)) (named services) ≡ false
    → is_at sid (service_key service) held ≡ true → is_replaced sid services held ≡ false
not_both terms past sid service services held apart h =
    let p = and_parts (bytes_eq sid held.sid) (same_service held.key (service_key service)) h in
    let keys : held.key ≡ service_key service = same_service-true held.key (service_key service) p.1 in
    and_false (bytes_eq sid held.sid) (list_any (same_service held.key) (named services)) (ap (λ (key : ServiceKey). list_any (same_service key) (named services)) keys ∙ apart)

-- what is charged is overrun or was held
pub charged_le : (terms : TermsView) (past : List Done) (sid : Sid) (services : List ServiceView) → are_apart (named services) ≡ true
    → charges terms past sid services ≤ overruns terms past sid services + sum_by held_price (filter (is_replaced sid services) (lives terms past))
charged_le terms past sid [] = λ apart. omega arith
charged_le terms past sid (service ∷ services) =
    let cost = unwrap_or (charge terms past sid service) 0 in
    let held = live_price terms past sid (service_key service) in
    let here : charges terms past sid (service ∷ services) ≡ cost + charges terms past sid services = sum_by-cons (λ service. unwrap_or (charge terms past sid service) 0) service services in
    let over : overruns terms past sid (service ∷ services) ≡ (cost - held) + overruns terms past sid services = sum_by-cons (λ service. unwrap_or (charge terms past sid service) 0 - live_price terms past sid (service_key service)) service services in
    elim (cases_Bool (is_named service)) [
      | inl t ↦ λ apart_all.
          let keys : named (service ∷ services) ≡ service_key service ∷ named services = rw t refl in
          let apart = apart_parts (service_key service) (named services) (ap are_apart (sym keys) ∙ apart_all) in
          let rest = charged_le terms past sid services apart.1 in
          let live_le = live_among terms past sid (service_key service) in
          let both = sum_filter_both held_price (is_at sid (service_key service)) (is_replaced sid services) (is_replaced sid (service ∷ services))
          (λ held h. ap (λ (ks : List ServiceKey). bytes_eq sid held.sid && list_any (same_service held.key) ks) keys ∙ and_left (bytes_eq sid held.sid) (same_service held.key (service_key service)) (list_any (same_service held.key) (named services)) h)
          (λ held h. ap (λ (ks : List ServiceKey). bytes_eq sid held.sid && list_any (same_service held.key) ks) keys ∙ and_right (bytes_eq sid held.sid) (same_service held.key (service_key service)) (list_any (same_service held.key) (named services)) h)
          (λ held h. not_both terms past sid service services held apart.0 h) (lives terms past) in
          omega arith
      | inr f ↦ λ apart_all.
          let keys : named (service ∷ services) ≡ named services = rw f refl in
          let rest = charged_le terms past sid services (ap are_apart (sym keys) ∙ apart_all) in
          let same = sum_filter_more held_price (is_replaced sid services) (is_replaced sid (service ∷ services))
          (λ held h. ap (λ (ks : List ServiceKey). bytes_eq sid held.sid && list_any (same_service held.key) ks) keys ∙ h) (lives terms past) in
          let none : cost ≡ 0 = uncharged (is_some service.asked) _ service.used f in
          omega arith
    ]

-- grants that fit their rooms fit together
pub fit_together : (terms : TermsView) (past : List Done) (sid : Sid) (services : List ServiceView) (before rest : List ServiceAnswer) → GrantsFit terms past sid services before rest
    → (sum_by made_price rest ≡ 0) ⊎ (pos ((charges terms past sid services + reserved_beside terms past sid services) + (sum_by made_price before + sum_by made_price rest)) ≤ℤ funds_of terms past)
fit_together terms past sid services before [] fit = inl refl
fit_together terms past sid services before (answer ∷ rest) fit =
    let more = sum_by-cons made_price answer rest in
    let push = sum_by_push made_price before answer in
    let after = fit_together terms past sid services (before ++ answer ∷ []) rest fit.1 in
    let here = covers_parts (room terms past sid services before) (made_price answer) fit.0 in
    elim after [
      | inl none ↦ elim here [ inl free ↦ inl (omega arith) | inr le ↦ inr (omega (arith, ints)) ]
      | inr le ↦ inr (omega (arith, ints))
    ]

made_prices : (sid : Sid) (answers : List ServiceAnswer) → sum_by held_price (filter_map (live_of sid) answers) ≡ sum_by made_price answers
made_prices sid [] = refl
made_prices sid (answer ∷ answers) =
    one answer.grant ∙ ap (λ (n : ℕ). made_price answer + n) (made_prices sid answers) ∙ sym (sum_by-cons made_price answer answers)
  where
    one : (grant : Option Grant) → sum_by held_price (cons_option (option_map (λ grant. record { sid = sid; key = answer_key answer; grant = grant }) grant) (filter_map (live_of sid) answers))
        ≡ option_map_or (λ grant. held_price (record { sid = sid; key = answer_key answer; grant = grant })) grant 0 + sum_by held_price (filter_map (live_of sid) answers)
    one None = omega arith
    one (Some grant) = sum_by-cons held_price (record { sid = sid; key = answer_key answer; grant = grant }) (filter_map (live_of sid) answers)

-- what is reserved after a request is what it granted and what it left
reserved_served : (terms : TermsView) (past : List Done) (done : Done) (sid : Sid) (made : List ServiceAnswer) → session_of done ≡ Some sid → answers_of done.outcome ≡ made
    → reserved_of terms (done ∷ past) ≤ sum_by made_price made + reserved_beside terms past sid (looked_at done.act.kind)
reserved_served terms past done sid made session answers_are =
    let by : made_by done ≡ filter_map (live_of sid) made =
    ap (λ (o : Option Sid). unwrap_or (option_map (λ (own : Sid). filter_map (live_of own) (answers_of done.outcome)) o) []) session ∙ ap (filter_map (live_of sid)) answers_are in
    let sum_made : sum_by held_price (made_by done) ≡ sum_by made_price made = ap (sum_by held_price) by ∙ made_prices sid made in
    let whole : reserved_of terms (done ∷ past) ≡ sum_by held_price (made_by done) + sum_by held_price (filter (goes_on terms past done) (lives terms past)) =
    sum_by-append held_price (made_by done) (filter (goes_on terms past done) (lives terms past)) in
    let left = sum_filter_more held_price (goes_on terms past done) (λ (held : Live). not (is_replaced sid (looked_at done.act.kind) held))
    (λ held h. ap (λ (o : Option Sid). not (is_sid o held.sid && list_any (same_service held.key) (named (looked_at done.act.kind)))) (sym session) ∙ not_or (ends terms past done held.sid) (names done held.sid held.key) h)
    (lives terms past) in
    omega arith

reserved_idle : (terms : TermsView) (past : List Done) (done : Done) → session_of done ≡ None → reserved_of terms (done ∷ past) ≤ reserved_of terms past
reserved_idle terms past done session =
    let by : made_by done ≡ [] = ap (λ (o : Option Sid). unwrap_or (option_map (λ (own : Sid). filter_map (live_of own) (answers_of done.outcome)) o) []) session in
    let sum_made : sum_by held_price (made_by done) ≡ 0 = ap (sum_by held_price) by in
    let whole : reserved_of terms (done ∷ past) ≡ sum_by held_price (made_by done) + sum_by held_price (filter (goes_on terms past done) (lives terms past)) =
    sum_by-append held_price (made_by done) (filter (goes_on terms past done) (lives terms past)) in
    let left = sum_filter_le held_price (goes_on terms past done) (lives terms past) in
    omega arith

-- the law
pub record Holds (terms : TermsView) (past : List Done) : Type 0 where
  pub bound : pos (reserved_of terms past) ≤ℤ (funds_of terms past +ℤ pos (overrun_of terms past))

idle_sum : (funds : ℤ) (reserved after overrun given taken : ℕ) → pos reserved ≤ℤ (funds +ℤ pos overrun) → after ≤ reserved → (taken ≡ 0) ⊎ (pos taken ≤ℤ (funds -ℤ pos reserved))
    → pos after ≤ℤ (((funds +ℤ pos given) -ℤ pos (taken + 0)) +ℤ pos (overrun + 0))
idle_sum funds reserved after overrun given taken old le (inl none) = omega (arith, ints)
idle_sum funds reserved after overrun given taken old le (inr free) = omega (arith, ints)

pub idle_step : (terms : TermsView) (past : List Done) (done : Done) → session_of done ≡ None → accepted_by done.act.kind done.outcome ≡ None
    → (debit done.act.kind done.outcome ≡ 0) ⊎ (pos (debit done.act.kind done.outcome) ≤ℤ free_of terms past) → Holds terms past → Holds terms (done ∷ past)
idle_step terms past done session accepted paid old =
    let none : charged terms past done ≡ 0 = ap (λ (o : Option Sid). option_map_or (λ (sid : Sid). charges terms past sid (looked_at done.act.kind)) o 0) accepted in
    let within : overran terms past done ≡ 0 = ap (λ (o : Option Sid). option_map_or (λ (sid : Sid). overruns terms past sid (looked_at done.act.kind)) o 0) accepted in
    let sums = idle_sum (funds_of terms past) (reserved_of terms past) (reserved_of terms (done ∷ past)) (overrun_of terms past) (credit done.act.kind done.outcome) (debit done.act.kind done.outcome) old.bound (reserved_idle terms past done session) paid in
    record { bound = omega (arith, ints) }

served_sum : (funds : ℤ) (reserved after overrun given made charge over beside touched asked : ℕ) → pos reserved ≤ℤ (funds +ℤ pos overrun) → after ≤ made + beside → touched + beside ≡ reserved → charge ≤ over + touched → charge ≤ asked
    → (made ≡ 0) ⊎ (pos ((asked + beside) + (0 + made)) ≤ℤ funds) → pos after ≤ℤ (((funds +ℤ pos given) -ℤ pos (0 + charge)) +ℤ pos (overrun + over))
served_sum funds reserved after overrun given made charge over beside touched asked old le parts cost less (inl none) = omega (arith, ints)
served_sum funds reserved after overrun given made charge over beside touched asked old le parts cost less (inr fit) = omega (arith, ints)

-- what beside and replaced are together
parts_are : (terms : TermsView) (past : List Done) (sid : Sid) (services : List ServiceView) → sum_by held_price (filter (is_replaced sid services) (lives terms past)) + reserved_beside terms past sid services ≡ reserved_of terms past
parts_are terms past sid services =
    sum_by-filter_both (is_replaced sid services) (λ (held : Live). not (is_replaced sid services held)) (λ held. refl) held_price (lives terms past)

-- an opening charges nothing
pub open_step : (terms : TermsView) (past : List Done) (done : Done) (sid : Sid) → session_of done ≡ Some sid → accepted_by done.act.kind done.outcome ≡ None
    → answers_of done.outcome ≡ answers terms past sid (looked_at done.act.kind) [] (looked_at done.act.kind)
    → debit done.act.kind done.outcome ≡ 0 → Holds terms past → Holds terms (done ∷ past)
open_step terms past done sid session accepted answers_are unpaid old =
    let services = looked_at done.act.kind in
    let made = answers terms past sid services [] services in
    let none : charged terms past done ≡ 0 = ap (λ (o : Option Sid). option_map_or (λ (sid : Sid). charges terms past sid (looked_at done.act.kind)) o 0) accepted in
    let within : overran terms past done ≡ 0 = ap (λ (o : Option Sid). option_map_or (λ (sid : Sid). overruns terms past sid (looked_at done.act.kind)) o 0) accepted in
    let sums = served_sum (funds_of terms past) (reserved_of terms past) (reserved_of terms (done ∷ past)) (overrun_of terms past) (credit done.act.kind done.outcome)
    (sum_by made_price made) 0 0 (reserved_beside terms past sid services) (sum_by held_price (filter (is_replaced sid services) (lives terms past))) (charges terms past sid services)
    old.bound (reserved_served terms past done sid made session answers_are) (parts_are terms past sid services) (omega arith) (omega arith)
    (fit_together terms past sid services [] made (grants_fit terms past sid services [] services)) in
    record { bound = omega (arith, ints) }

-- a report charges what was held or overran
pub report_step : (terms : TermsView) (past : List Done) (done : Done) (sid : Sid) → session_of done ≡ Some sid → accepted_by done.act.kind done.outcome ≡ Some sid
    → answers_of done.outcome ≡ answers terms past sid (looked_at done.act.kind) [] (looked_at done.act.kind)
    → debit done.act.kind done.outcome ≡ 0 → are_apart (named (looked_at done.act.kind)) ≡ true → Holds terms past → Holds terms (done ∷ past)
report_step terms past done sid session accepted answers_are unpaid apart old =
    let services = looked_at done.act.kind in
    let made = answers terms past sid services [] services in
    let cost : charged terms past done ≡ charges terms past sid services = ap (λ (o : Option Sid). option_map_or (λ (sid : Sid). charges terms past sid (looked_at done.act.kind)) o 0) accepted in
    let over : overran terms past done ≡ overruns terms past sid services = ap (λ (o : Option Sid). option_map_or (λ (sid : Sid). overruns terms past sid (looked_at done.act.kind)) o 0) accepted in
    let sums = served_sum (funds_of terms past) (reserved_of terms past) (reserved_of terms (done ∷ past)) (overrun_of terms past) (credit done.act.kind done.outcome)
    (sum_by made_price made) (charges terms past sid services) (overruns terms past sid services) (reserved_beside terms past sid services) (sum_by held_price (filter (is_replaced sid services) (lives terms past))) (charges terms past sid services)
    old.bound (reserved_served terms past done sid made session answers_are) (parts_are terms past sid services) (charged_le terms past sid services apart) (omega arith)
    (fit_together terms past sid services [] made (grants_fit terms past sid services [] services)) in
    record { bound = omega (arith, ints) }
