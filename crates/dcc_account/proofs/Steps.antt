-- An account with one more act.
use Rattle.std.proofs.Common.{◌≡◌, ℕ, ◌+◌, ◌-◌, ◌*◌, ◌<◌, ◌≤◌, ℤ, pos, ◌-ℤ◌, ◌≤ℤ◌, length, Option, Some, None, option_map, Bool, true, cond, List, [], ◌∷◌, ◌++◌, map, reverse, refl, sym, ap, subst, ◌∙◌, arith, inl, inr, append-nil}
use Rattle.std.specs.Prelude.{MatchOption}
use Rattle.std.proofs.lemmas.Bool.{cases_Bool}
use Rattle.std.proofs.lemmas.Int.{ints}
use Rattle.std.proofs.lemmas.List.{reverse-append, reverse-reverse, length-reverse, length-map, length_push}
use Rattle.dcc_escrow.specs.Pools.{PoolView, free as left}
use Rattle.dcc_expiry.specs.Deadlines.{DueView, deadline_of}
use Rattle.dcc_tariff.specs.Terms.{TermsView}
use Rattle.dcc_act.specs.declared.act.Act.{Act}
use Rattle.dcc_act.specs.declared.entry.Entry.{Entry}
use Rattle.dcc_act.specs.declared.outcome.Outcome.{Outcome}
use Rattle.dcc_act.specs.declared.request_key.RequestKey.{RequestKey}
use Rattle.dcc_model.specs.declared.done.Done.{Done}
use Rattle.dcc_model.specs.declared.judgement.Standing.{Standing}
use Rattle.dcc_model.specs.Keys.{request_key}
use Rattle.dcc_model.specs.Outcomes.{after, has_account, first_of, outcome_of, place_of_key, history, with_act, is_made, is_new, place, act_made, acts, standing, funds, overrun, free, kept_of, kept}
use Rattle.dcc_model.specs.Entries.{entries_of, entries_with, entries}
use Rattle.dcc_model.specs.Money.{funds_of, overrun_of, reserved_of, free_of}
use Rattle.dcc_model.specs.Laws.{OneMoreAct, IsKeyed, AreKeyed}
use Rattle.dcc_model.specs.Sessions.{Sid}
use Rattle.dcc_state.specs.declared.facts.Facts.{Facts}
use Rattle.dcc_state.specs.declared.change.Change.{Change}
use Rattle.dcc_state.specs.Backed.{IsBacked}
use Rattle.dcc_state.specs.Known.{was_opened_by, HoldsAll, IsKnown, IsWithin, MoneyIsWithin, SessionsHoldWhatIsReserved}
use Rattle.dcc_state.specs.OpenSessions.{SessionView, AreOpen, KeepsDeadlines}
use Rattle.dcc_account.specs.Accounts.{AccountView}
use Rattle.dcc_account.specs.declared.indexes.Indexes.{Indexes}
use Rattle.dcc_account.specs.inner.Indexed.{IsIndexed}
use Rattle.dcc_account.specs.inner.Kept.{IsKept, IsRunning, MAX_OVERRUN}
use Rattle.dcc_account.specs.Fits.{HasMemory, HasPlace}
use Rattle.dcc_account.specs.Prepared.{StepView, IsPrepared}

-- the acts of an account are their own
pub own_acts : (terms : TermsView) (all : List Act) (came : List Outcome) (posted : List Entry) → IsKept terms all came posted → acts terms all ≡ all
unfolding acts
own_acts terms all came posted kept = ap reverse kept.own ∙ reverse-reverse all

-- how many acts there are, and how many outcomes
pub many_made : (terms : TermsView) (all : List Act) (came : List Outcome) (posted : List Entry) → IsKept terms all came posted → length all ≡ length (history terms (reverse all))
many_made terms all came posted kept =
    sym (length-reverse all) ∙ sym (ap (λ (xs : List Act). length xs) kept.own) ∙ length-map (history terms (reverse all)) act_made

pub many_came : (terms : TermsView) (all : List Act) (came : List Outcome) (posted : List Entry) → IsKept terms all came posted → length came ≡ length (history terms (reverse all))
many_came terms all came posted kept =
    ap (λ (xs : List Outcome). length xs) kept.came_are ∙ length-reverse (map outcome_of (history terms (reverse all))) ∙ length-map (history terms (reverse all)) outcome_of

pub as_many : (terms : TermsView) (all : List Act) (came : List Outcome) (posted : List Entry) → IsKept terms all came posted → length came ≡ length all
as_many terms all came posted kept = many_came terms all came posted kept ∙ sym (many_made terms all came posted kept)

history_push : (terms : TermsView) (all : List Act) (act : Act) → history terms (reverse (all ++ act ∷ [])) ≡ with_act terms (history terms (reverse all)) act
history_push terms all act = ap (history terms) (reverse-append all (act ∷ []))

-- the entries with those of one more act
entries_more : (terms : TermsView) (past : List Done) (act : Act) → entries_of terms (with_act terms past act) ≡ entries_of terms past ++ entries_with terms past act
entries_more terms past act =
    elim (cases_Bool (is_made terms past act)) [
      | inl t ↦ rw t refl
      | inr f ↦ rw f (sym (append-nil (entries_of terms past)))
    ]

pub entries_at : (terms : TermsView) (xs : List Act) (added : List Entry) (act : Act) → added ≡ entries_with terms (history terms (reverse xs)) act → entries terms (xs ++ act ∷ []) ≡ entries terms xs ++ added
unfolding entries
entries_at terms xs added act is =
    let past = history terms (reverse xs) in
    ap (entries_of terms) (history_push terms xs act) ∙ entries_more terms past act ∙ ap (λ (es : List Entry). entries_of terms past ++ es) (sym is)

pub funds_at : (terms : TermsView) (xs : List Act) (act : Act) (money : ℤ) → funds_of terms (with_act terms (history terms (reverse xs)) act) ≡ money → funds terms (xs ++ act ∷ []) ≡ money
unfolding funds
funds_at terms xs act money is = ap (funds_of terms) (history_push terms xs act) ∙ is

pub overrun_at : (terms : TermsView) (xs : List Act) (act : Act) (more : ℕ) → overrun_of terms (with_act terms (history terms (reverse xs)) act) ≡ overrun_of terms (history terms (reverse xs)) + more
    → overrun terms (xs ++ act ∷ []) ≡ overrun terms xs + more
unfolding overrun
overrun_at terms xs act more is = ap (overrun_of terms) (history_push terms xs act) ∙ is

-- one more act whose services have keys of their own
keyed_push : (all : List Act) (act : Act) → AreKeyed all → IsKeyed act → AreKeyed (all ++ act ∷ [])
keyed_push [] act keyed one = (one, tt)
keyed_push (first ∷ all) act keyed one = (keyed.0, keyed_push all act keyed.1 one)

-- the past with a new act
pub history_more : (terms : TermsView) (all : List Act) (act : Act) (outcome : Outcome) → outcome ≡ after terms all act → is_new terms all act ≡ true
    → history terms (reverse (all ++ act ∷ [])) ≡ record { act = act; outcome = outcome } ∷ history terms (reverse all)
unfolding after is_new
history_more terms all act outcome is new =
    history_push terms all act ∙ rw new (ap (λ (o : Outcome). record { act = act; outcome = o } ∷ history terms (reverse all)) (sym is))

-- what an account keeps after a new act
pub kept_with : (terms : TermsView) (all : List Act) (came : List Outcome) (posted more : List Entry) (act : Act) (outcome : Outcome) → IsKept terms all came posted
    → outcome ≡ after terms all act → is_new terms all act ≡ true → entries terms (all ++ act ∷ []) ≡ entries terms all ++ more → IsKeyed act
    → IsKept terms (all ++ act ∷ []) (came ++ outcome ∷ []) (posted ++ more)
kept_with terms all came posted more act outcome kept outcome_is new entries_are one_keyed =
    let past = history terms (reverse all) in
    let pushed = history_more terms all act outcome outcome_is new in
    record {
      keyed = keyed_push all act kept.keyed one_keyed;
      own = ap (map act_made) pushed ∙ ap (λ (xs : List Act). act ∷ xs) kept.own ∙ sym (reverse-append all (act ∷ []));
      came_are =
          ap (λ (xs : List Outcome). xs ++ outcome ∷ []) kept.came_are ∙ sym (reverse-append (outcome ∷ []) (map outcome_of past))
          ∙ sym (ap (λ (made : List Done). reverse (map outcome_of made)) pushed);
      entries_are = ap (λ (es : List Entry). es ++ more) kept.entries_are ∙ sym entries_are;
    }

-- the acts with one more
pub acts_with : OneMoreAct → (terms : TermsView) (all : List Act) (came : List Outcome) (posted : List Entry) (act : Act) (new : Bool) → IsKept terms all came posted
    → new ≡ is_new terms all act → acts terms (all ++ act ∷ []) ≡ cond new (all ++ act ∷ []) all
acts_with one_more terms all came posted act new kept new_is =
    one_more terms all act ∙ ap (λ (own : List Act). cond (is_new terms all act) (own ++ act ∷ []) own) (own_acts terms all came posted kept)
    ∙ ap (λ (b : Bool). cond b (all ++ act ∷ []) all) (sym new_is)

-- the outcome that was kept
pub kept_in : (terms : TermsView) (all : List Act) (key : RequestKey) (found : Option Outcome) → found ≡ kept_of (history terms (reverse all)) key → found ≡ kept terms all key
unfolding kept
kept_in terms all key found is = is

pub prepared_at : (a b : AccountView) (s t : StepView) → IsPrepared b t → a ≡ b → s ≡ t → IsPrepared a s
prepared_at a b s t is e f = rw (e, f) is

-- there is memory for more where the larger vector is made for it
pub fits_of : {X : Type 0} (size : X → ℕ) (larger : Option X) (held more capacity count wanted : ℕ) → count ≡ held → wanted ≡ more
    → MatchOption larger (held + more ≤ capacity) (λ v. held + more ≤ size v) → HasMemory count wanted (capacity - held) (option_map size larger)
fits_of size None held more capacity count wanted c w h = omega arith
fits_of size (Some v) held more capacity count wanted c w h = omega arith

-- what a larger vector was made for, it has room for, and so has the vector that grew
pub grows_for : {X : Type 0} (size : X → ℕ) (larger : Option X) (held count room : ℕ) → held ≡ count → HasMemory count 1 room (option_map size larger) → (v : X) → larger ≡ Some v → held ≤ size v
grows_for size larger held count room same memory v is = let there = rw is at memory in omega (arith, same, there)

pub room_for : {X : Type 0} (size : X → ℕ) (larger : Option X) (held count before after : ℕ) → held ≡ count → HasMemory count 1 (before - held) (option_map size larger)
    → MatchOption larger (after ≡ before) (λ v. size v ≤ after) → held + 1 ≤ after
room_for size None held count before after same memory grown = omega (arith, same, memory, grown)
room_for size (Some v) held count before after same memory grown = omega (arith, same, memory, grown)

-- and where an index has room, or the larger one is made for its keys
pub room_of : {X : Type 0} (size : X → ℕ) (larger : Option X) (more count room : ℕ) → 1 ≡ more → MatchOption larger (more ≤ room) (λ v. count + more ≤ size v)
    → HasPlace (record { count = count; room = room }) (option_map size larger)
room_of size None more count room one h = omega (arith, one, h)
room_of size (Some v) more count room one h = omega (arith, one, h)

-- the money of the pool is that of the definitions
pub free_is : SessionsHoldWhatIsReserved → (terms : TermsView) (all : List Act) (came : List Outcome) (posted : List Entry) (pool : PoolView) (over : ℤ) (sessions : List SessionView) (due : DueView) (indexes : Indexes)
    → IsRunning terms all came posted pool over sessions due indexes → left pool ≡ free terms all
unfolding funds free
free_is law terms all came posted pool over sessions due indexes is =
    ap (λ (held : ℕ). pool.committed -ℤ pos held) (is.holds.reserved ∙ law terms all sessions is.sessions_are)
    ∙ ap (λ (money : ℤ). money -ℤ pos (reserved_of terms (history terms (reverse all)))) is.funds_are

pub standing_is : (terms : TermsView) (all : List Act) (money : Standing) → money.funds ≡ funds terms all → money.free ≡ free terms all → money.overrun ≡ pos (overrun terms all)
    → money ≡ standing terms all
unfolding standing funds free overrun
standing_is terms all money f r o =
    let past = history terms (reverse all) in
    let with_funds : ℤ → Standing = λ z. record { funds = z; free = money.free; overrun = money.overrun } in
    let with_free : ℤ → Standing = λ z. record { funds = funds_of terms past; free = z; overrun = money.overrun } in
    let with_overrun : ℤ → Standing = λ z. record { funds = funds_of terms past; free = free_of terms past; overrun = z } in
    ap with_funds f ∙ ap with_free r ∙ ap with_overrun o

pub funds_in : (terms : TermsView) (all : List Act) (money : Standing) → money ≡ standing terms all → money.funds ≡ funds terms all
unfolding standing funds
funds_in terms all money is = ap (λ (s : Standing). s.funds) is

pub free_in : (terms : TermsView) (all : List Act) (money : Standing) → money ≡ standing terms all → money.free ≡ free terms all
unfolding standing free
free_in terms all money is = ap (λ (s : Standing). s.free) is

-- what is known of the acts that were made
pub known_at : (terms : TermsView) (all : List Act) (came : List Outcome) (posted : List Entry) (pool : PoolView) (over : ℤ) (sessions given : List SessionView) (due : DueView) (indexes : Indexes) (act : Act) (facts : Facts)
    (first : Option Outcome) → IsRunning terms all came posted pool over sessions due indexes
    → given ≡ sessions → facts.count ≡ length all → facts.has_account ≡ has_account (history terms (reverse all)) → facts.was_opened ≡ was_opened_by (history terms (reverse all)) (request_key act.kind)
    → facts.place ≡ place_of_key (map act_made (history terms (reverse all))) act.kind → first ≡ option_map outcome_of (first_of (history terms (reverse all)) act.kind) → facts.standing ≡ standing terms all
    → IsKnown terms all act facts first given
unfolding standing
known_at terms all came posted pool over sessions given due indexes act facts first is same count account opened place first_is standing_is =
    record {
      keyed = is.kept.keyed;
      count_is = count ∙ many_made terms all came posted is.kept;
      account_is = account;
      opened_is = opened;
      first_is = first_is;
      place_is = place;
      standing_is = standing_is;
      sessions_are = subst (AreOpen terms (history terms (reverse all))) (sym same) is.sessions_are;
    }

-- the money of an account can be reckoned with
pub within_at : MoneyIsWithin → (terms : TermsView) (all : List Act) (came : List Outcome) (posted : List Entry) (pool : PoolView) (over : ℤ) (sessions given : List SessionView) (due : DueView) (indexes : Indexes)
    → IsRunning terms all came posted pool over sessions due indexes → (money : Standing) → money ≡ standing terms all
    → given ≡ sessions → length all < 9_223_372_036_854_775_808 → IsWithin money given
unfolding standing overrun
within_at law terms all came posted pool over sessions given due indexes is money money_is same few =
    let past = history terms (reverse all) in
    let most = is.overrun_is in
    let over_is = is.overrun_are in
    let money_over = ap (λ (s : Standing). s.overrun) money_is in
    law terms all money given is.kept.keyed money_is (subst (AreOpen terms past) (sym same) is.sessions_are) (omega (arith, ints))

-- what stands behind a change, by the money of the pool
pub backed_by : (a b c d : ℤ) (sessions given : List SessionView) (change : Change) → IsBacked a b sessions change → c ≡ a → d ≡ b → given ≡ sessions → IsBacked c d given change
backed_by a b c d sessions given change is e f g = rw (e, f, g) is

-- the sessions and the money after one more act
pub running_with : (terms : TermsView) (all : List Act) (came : List Outcome) (posted : List Entry) (pool : PoolView) (over : ℤ) (sessions : List SessionView) (due : DueView) (indexes : Indexes) (done : Done)
    → IsKept terms (all ++ done.act ∷ []) came posted → AreOpen terms (with_act terms (history terms (reverse all)) done.act) sessions → KeepsDeadlines due sessions → HoldsAll pool sessions
    → pool.committed ≡ funds terms (all ++ done.act ∷ []) → over ≡ pos (overrun terms (all ++ done.act ∷ []))
    → over ≤ℤ pos (MAX_OVERRUN * (length all + 1)) → IsIndexed (done ∷ history terms (reverse all)) indexes → history terms (reverse (all ++ done.act ∷ [])) ≡ done ∷ history terms (reverse all)
    → IsRunning terms (all ++ done.act ∷ []) came posted pool over sessions due indexes
running_with terms all came posted pool over sessions due indexes done kept are due_are holds funds_are overrun_are most indexed past =
    let more = length_push all done.act in
    record {
      kept = kept;
      sessions_are = subst (λ (past : List Done). AreOpen terms past sessions) (sym (history_push terms all done.act)) are;
      due_are = due_are;
      holds = holds;
      funds_are = funds_are;
      overrun_are = overrun_are;
      overrun_is = subst (λ (n : ℕ). over ≤ℤ pos (MAX_OVERRUN * n)) (sym more) most;
      indexed = subst (λ (past : List Done). IsIndexed past indexes) (sym past) indexed;
    }

pub running_at : (terms : TermsView) (all all' : List Act) (came came' : List Outcome) (posted posted' : List Entry) (pool : PoolView) (over : ℤ) (sessions : List SessionView) (due : DueView) (indexes : Indexes)
    → IsRunning terms all came posted pool over sessions due indexes → all' ≡ all → came' ≡ came → posted' ≡ posted → IsRunning terms all' came' posted' pool over sessions due indexes
running_at terms all all' came came' posted posted' pool over sessions due indexes is a m p = rw (a, m, p) is

-- deadlines that are the same at each name are kept of the same sessions
pub due_same : (before after : DueView) (sessions given : List SessionView) → KeepsDeadlines before sessions → ((sid : Sid) → deadline_of after sid ≡ deadline_of before sid) → given ≡ sessions
    → KeepsDeadlines after given
due_same before after sessions given kept same is = rw is (λ sid. same sid ∙ kept sid)
