-- Acts in order, looked at from the end; sessions counted by the acts that opened them.
use Rattle.std.proofs.Common.{◌≡◌, ℕ, ◌+◌, Bool, false, ◌&&◌, cond, List, [], ◌∷◌, filter, length, reverse, count_by, refl, ap, ◌∙◌, sym, inl, inr, ◌⊎◌, Option, Some, None, arith, ◌<◌, take, get_or}
use Rattle.std.specs.Prelude.{nat_le}
use Rattle.std.specs.Option.{option_map_or}
use Rattle.std.proofs.lemmas.Bool.{cases_Bool}
use Rattle.std.proofs.lemmas.List.{reverse-append, take_more}
use Rattle.std.proofs.lemmas.List.Sums.{length-filter, sum_by-append, sum_by-cons}
use Rattle.dcc_tariff.specs.Terms.{TermsView}
use Rattle.dcc_model.specs.declared.done.Done.{Done}
use Rattle.dcc_model.specs.Sessions.{Sid, opens_by, is_open, deadline, opened, open_sessions}
use Rattle.dcc_model.specs.Outcomes.{expired}
use Rattle.dcc_model.specs.inner.Lookback.{opened_one, is_expired, opened_expired}

cases_Option : {A : Type 0} (o : Option A) → (o ≡ None) ⊎ ((a : A) × (o ≡ Some a))
cases_Option None = inl refl
cases_Option (Some a) = inr (a, refl)

-- a session for each act that opened one
filtered : (test : Sid → Bool) (past : List Done)
    → length (filter test (opened past)) ≡ length (filter (λ (done : Done). option_map_or test (opens_by done.act.kind done.outcome) false) past)
filtered test [] = refl
filtered test (done ∷ past) =
    elim (cases_Option (opens_by done.act.kind done.outcome)) [
      | inl none ↦ rw none (filtered test past)
      | inr some ↦ rw some.1 (elim (cases_Bool (test some.0)) [ inl t ↦ rw (t, filtered test past) refl | inr f ↦ rw (f, filtered test past) refl ])
    ]

counted : (test : Sid → Bool) (past : List Done)
    → length (filter test (opened past)) ≡ count_by (λ (done : Done). option_map_or test (opens_by done.act.kind done.outcome) false) past
counted test past = filtered test past ∙ length-filter (λ (done : Done). option_map_or test (opens_by done.act.kind done.outcome) false) past

-- a session that passes both tests
twice : (p q : Sid → Bool) (sids : List Sid) → filter q (filter p sids) ≡ filter (λ sid. p sid && q sid) sids
twice p q [] = refl
twice p q (sid ∷ sids) =
    elim (cases_Bool (p sid)) [
      | inl t ↦ elim (cases_Bool (q sid)) [ inl s ↦ rw (t, s, twice p q sids) refl | inr s ↦ rw (t, s, twice p q sids) refl ]
      | inr f ↦ rw (f, twice p q sids) refl
    ]

count_by-reverse : (test : Done → Bool) (past : List Done) → count_by test (reverse past) ≡ count_by test past
count_by-reverse test [] = refl
count_by-reverse test (done ∷ past) =
    let here = sum_by-cons (λ (d : Done). cond (test d) 1 0) done past in
    let there = ap (count_by test) (reverse-append (done ∷ []) past) ∙ sum_by-append (λ (d : Done). cond (test d) 1 0) (reverse past) (done ∷ []) in
    let rest = count_by-reverse test past in
    omega arith

pub count_open_is : (terms : TermsView) (past : List Done) → length (open_sessions terms (reverse past)) ≡ count_by (opened_one terms (reverse past)) past
count_open_is terms past = counted (is_open terms (reverse past)) (reverse past) ∙ count_by-reverse (opened_one terms (reverse past)) past

pub expired_is : (terms : TermsView) (moment : ℕ) (past : List Done) → expired terms (reverse past) moment ≡ count_by (opened_expired terms (reverse past) moment) past
expired_is terms moment past =
    sym (length-filter (λ sid. nat_le (deadline terms (reverse past) sid) moment) (open_sessions terms (reverse past)))
    ∙ ap length (twice (is_open terms (reverse past)) (λ sid. nat_le (deadline terms (reverse past) sid) moment) (opened (reverse past)))
    ∙ counted (is_expired terms (reverse past) moment) (reverse past)
    ∙ count_by-reverse (opened_expired terms (reverse past) moment) past

-- one more act, looked at from the end
pub latest_first : (past : List Done) (i : ℕ) (done : Done) → i < length past → done ≡ get_or past i done → reverse (take (i + 1) past) ≡ done ∷ reverse (take i past)
latest_first past i done within is =
    ap reverse (take_more past i done within) ∙ reverse-append (take i past) (get_or past i done ∷ []) ∙ ap (λ (d : Done). d ∷ reverse (take i past)) (sym is)
