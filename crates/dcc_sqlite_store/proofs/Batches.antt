-- A batch in the tables and in the tallies: its acts, one after another.
use Rattle.std.proofs.Common.{◌≡◌, inl, inr, ℕ, ◌+◌, ◌<◌, ℤ, ◌+ℤ◌, cond, true, false, not, List, [], ◌∷◌, ◌++◌, length, map, take, drop, get_or, suc, add-one, drop-cons, IsTrue, refl, sym, ap, ap₂, subst, ◌∙◌}
use Rattle.std.specs.Ordering.{is_eq}
use Rattle.std.proofs.lemmas.Bool.{cases_Bool, and_parts}
use Rattle.std.proofs.lemmas.List.{length-append, take_more}
use Rattle.sqlite.specs.Tree.{Trees}
use Rattle.sqlite.specs.State.{State}
use Rattle.dcc_tariff.specs.Terms.{TermsView}
use Rattle.dcc_act.specs.declared.act.Act.{Act}
use Rattle.dcc_act.specs.declared.sub.Sub.{Sub}
use Rattle.dcc_act.specs.Subs.{same_sub, SameAreEqual}
use Rattle.dcc_model.specs.Outcomes.{funds}
use Rattle.dcc_model.specs.Entries.{sum_of}
use Rattle.dcc_act_codec.specs.Records.{record_of}
use Rattle.dcc_store.specs.Books.{Held, with_act, sub_order}
use Rattle.dcc_store.specs.Contents.{Kept, IsNext}
use Rattle.dcc_store.specs.Batches.{AdditionView, subs_of, with_all, is_none_of, are_apart, AreNext}
use Rattle.dcc_store.specs.Laws.{AccountsGrow}
use Rattle.dcc_sqlite_rows.specs.declared.tally.Tally.{Tally}
use Rattle.dcc_sqlite_rows.specs.Rows.{sub_octets}
use Rattle.dcc_sqlite_store.specs.Trees.{IsStore}
use Rattle.dcc_sqlite_store.specs.Content.{HoldsBook}
use Rattle.dcc_sqlite_store.specs.Tables.{layout}
use Rattle.dcc_sqlite_store.specs.inner.Trees.{account_tree, IsKeyed, Appends, HasRun}
use Rattle.dcc_sqlite_store.specs.inner.Tallies.{tally_in, AreTallies}
use Rattle.dcc_sqlite_store.specs.inner.Steps.{StepView, step_behind, steps_behind, AppendsStep, AppendsAll, HasPlace, HavePlaces, with_tally, tallies_after}
use Rattle.dcc_sqlite_store.proofs.Books.{book_grows}
use Rattle.dcc_sqlite_store.proofs.Tallying.{equal_subs, same_where_equal}

-- ---- places

pub places_stay : (old new : List (Sub × Tally)) (steps : List StepView) → ((other : Sub) → HasPlace old other → HasPlace new other) → HavePlaces old steps → HavePlaces new steps
places_stay old new [] stays places = tt
places_stay old new (step ∷ steps) stays places = (stays step.one.sub places.0, places_stay old new steps stays places.1)

pub places_push : (tallies : List (Sub × Tally)) (steps : List StepView) (step : StepView) → HavePlaces tallies steps → HasPlace tallies step.one.sub → HavePlaces tallies (steps ++ step ∷ [])
places_push tallies [] step places place = (place, tt)
places_push tallies (first ∷ steps) step places place = (places.0, places_push tallies steps step places.1 place)

-- the steps with one more
map_push : (f : AdditionView → StepView) (xs : List AdditionView) (x : AdditionView) → map f (xs ++ x ∷ []) ≡ map f xs ++ f x ∷ []
map_push f [] x = refl
map_push f (y ∷ xs) x = ap (λ (steps : List StepView). f y ∷ steps) (map_push f xs x)

pub step_more : (tallies now : List (Sub × Tally)) (batch : List AdditionView) (i : ℕ) (one : AdditionView) (steps after : List StepView) (step : StepView) → i < length batch → one ≡ get_or batch i one
    → ((other : Sub) → tally_in now other ≡ tally_in tallies other) → steps ≡ steps_behind tallies (take i batch) → step ≡ step_behind (tally_in now one.sub) one → after ≡ steps ++ step ∷ []
    → after ≡ steps_behind tallies (take (i + 1) batch)
step_more tallies now batch i one steps after step below is same so_far made pushed =
    pushed ∙ ap₂ (λ (all : List StepView) (last : StepView). all ++ last ∷ []) so_far (made ∙ ap (λ (tally : Tally). step_behind tally one) (same one.sub))
    ∙ sym (map_push (λ (it : AdditionView). step_behind (tally_in tallies it.sub) it) (take i batch) one)
    ∙ ap (λ (some : List AdditionView). steps_behind tallies some) (sym (take_more batch i one below ∙ ap (λ (it : AdditionView). take i batch ++ it ∷ []) (sym is)))

-- ---- steps in a transaction

append_last : (steps : List StepView) (step : StepView) (a b c : Trees) → AppendsAll steps a b → AppendsStep step b c → AppendsAll (steps ++ step ∷ []) a c
append_last [] step a b c same last = (c, subst (λ (db : Trees). AppendsStep step db c) (sym same) last, refl)
append_last (first ∷ steps) step a b c all last = (all.0, all.1, append_last steps step all.0 b c all.2 last)

pub nothing_appended : (s : State) → IsTrue s.in_transaction → s.now.schema ≡ layout → HasRun (AppendsAll []) s s
nothing_appended s inside has = record { inside = inside; committed = refl; schema = has; changes = refl }

pub steps_then : (old mid new : State) (steps : List StepView) (i : ℕ) (step : StepView) → i < length steps → step ≡ get_or steps i step → HasRun (AppendsAll (take i steps)) old mid → HasRun (AppendsStep step) mid new
    → HasRun (AppendsAll (take (i + 1) steps)) old new
steps_then old mid new steps i step below is some last = record {
  inside = last.inside;
  committed = last.committed ∙ some.committed;
  schema = last.schema;
  changes =
      rw (take_more steps i step below, ← is) (append_last (take i steps) step old.now.trees mid.now.trees new.now.trees some.changes last.changes);
}

pub keyed_after : (steps : List StepView) (old new : Trees) → AppendsAll steps old new → IsKeyed (old account_tree) → IsKeyed (new account_tree)
keyed_after [] old new same keyed = subst (λ (db : Trees). IsKeyed (db account_tree)) same keyed
keyed_after (step ∷ steps) old new all keyed = keyed_after steps all.0 new all.2 all.1.appends.keyed

pub store_after : (steps : List StepView) (old new : Trees) → AppendsAll steps old new → IsStore old → IsStore new
store_after [] old new same store = subst IsStore same store
store_after (step ∷ steps) old new all store = store_after steps all.0 new all.2 all.1.appends.store

-- ---- a batch whose acts may come next, behind the tallies of their subscribers

abbrev pub tally_for : TermsView → List Act → Tally
tally_for terms acts = record { acts = length acts; funds = funds terms acts }

abbrev pub AreReady : TermsView → List (Sub × Tally) → Held → List AdditionView → Type 0
AreReady terms tallies held [] = Unit {0}
AreReady terms tallies held (one ∷ batch) =
    (IsNext terms (held one.sub) one.act one.entries × (tally_in tallies one.sub ≡ tally_for terms (held one.sub))) × AreReady terms tallies held batch

pub ready_of : (terms : TermsView) (tallies : List (Sub × Tally)) (held : Held) (batch : List AdditionView) → AreTallies terms tallies held → AreNext terms batch held → AreReady terms tallies held batch
ready_of terms tallies held [] are next = tt
ready_of terms tallies held (one ∷ batch) are next = ((next.0, are one.sub), ready_of terms tallies held batch are next.1)

not_same : (a : _) → not a ≡ true → a ≡ false
not_same a is =
    elim (cases_Bool a) [ inl holds ↦ let e : false ≡ true = sym (ap not holds) ∙ is in absurd (cc e) | inr none ↦ none ]

-- the acts of another subscriber change nothing of it
still_ready : (terms : TermsView) (tallies : List (Sub × Tally)) (held : Held) (sub : Sub) (act : Act) (batch : List AdditionView) → is_none_of sub (subs_of batch) ≡ true
    → AreReady terms tallies held batch → AreReady terms tallies (with_act sub act held) batch
still_ready terms tallies held sub act [] none ready = tt
still_ready terms tallies held sub act (one ∷ batch) none ready =
    let gone : same_sub sub one.sub ≡ false = not_same _ (and_parts _ _ none).0 in
    let stays : with_act sub act held one.sub ≡ held one.sub = rw gone refl in
    let P : List Act → Type 0 = λ acts. IsNext terms acts one.act one.entries × (tally_in tallies one.sub ≡ tally_for terms acts) in
    (subst P (sym stays) ready.0, still_ready terms tallies held sub act batch (and_parts _ _ none).1 ready.1)

-- the tally of a step is that of its subscriber's acts with the act
next_is : (terms : TermsView) (tallies : List (Sub × Tally)) (held : Held) (one : AdditionView) → AccountsGrow → IsNext terms (held one.sub) one.act one.entries
    → tally_in tallies one.sub ≡ tally_for terms (held one.sub) → (step_behind (tally_in tallies one.sub) one).next ≡ tally_for terms (held one.sub ++ one.act ∷ [])
next_is terms tallies held one grow next is =
    ap (λ (it : Tally). let r : Tally = record { acts = it.acts + 1; funds = it.funds +ℤ sum_of one.entries } in r) is
    ∙ ap₂ (λ (n : ℕ) (money : ℤ). let r : Tally = record { acts = n; funds = money } in r) (sym (length-append (held one.sub) (one.act ∷ [])))
    (sym (ap (λ (kept : Kept). kept.account.funds) (grow terms (held one.sub) one.act one.entries next)))

-- one step more in a book
one_grows : (terms : TermsView) (same : SameAreEqual) (grow : AccountsGrow) (tallies : List (Sub × Tally)) (old new : Trees) (held : Held) (one : AdditionView) → HoldsBook terms old held
    → IsNext terms (held one.sub) one.act one.entries → tally_in tallies one.sub ≡ tally_for terms (held one.sub) → AppendsStep (step_behind (tally_in tallies one.sub) one) old new
    → HoldsBook terms new (with_act one.sub one.act held)
one_grows terms same grow tallies old new held one book next is made =
    let at = next_is terms tallies held one grow next is in
    let len : length (held one.sub ++ one.act ∷ []) ≡ length (held one.sub) + 1 = length-append (held one.sub) (one.act ∷ []) in
    let P : Tally → Type 0 = λ it. Appends (sub_octets one.sub) it.acts (record_of one.act) one.entries it.funds old new in
    let behind = subst P at made.appends in
    let Q : ℕ → Type 0 = λ n. Appends (sub_octets one.sub) n (record_of one.act) one.entries (funds terms (held one.sub ++ one.act ∷ [])) old new in
    book_grows terms same old new held one.sub one.act one.entries book next made.fits made.valid (subst Q len behind)

-- a book with a batch more
pub all_grow : (terms : TermsView) (same : SameAreEqual) (grow : AccountsGrow) (tallies : List (Sub × Tally)) (batch : List AdditionView) (old new : Trees) (held : Held) → are_apart (subs_of batch) ≡ true
    → AreReady terms tallies held batch → HoldsBook terms old held → AppendsAll (steps_behind tallies batch) old new → HoldsBook terms new (with_all batch held)
all_grow terms same grow tallies [] old new held apart ready book all = subst (λ (db : Trees). HoldsBook terms db held) all book
all_grow terms same grow tallies (one ∷ batch) old new held apart ready book all =
    all_grow terms same grow tallies batch all.0 new (with_act one.sub one.act held) (and_parts _ _ apart).1 (still_ready terms tallies held one.sub one.act batch (and_parts _ _ apart).0 ready.1)
    (one_grows terms same grow tallies old all.0 held one book ready.0.0 ready.0.1 all.1) all.2

-- ---- the tallies of a book with a batch more

one_tally : (terms : TermsView) (tally : Sub → Tally) (held : Held) (sub : Sub) (act : Act) (next : Tally) → SameAreEqual → ((s : Sub) → tally s ≡ tally_for terms (held s))
    → next ≡ tally_for terms (held sub ++ act ∷ []) → (other : Sub) → with_tally sub next tally other ≡ tally_for terms (with_act sub act held other)
one_tally terms tally held sub act next same are is other =
    elim (cases_Bool (is_eq (sub_order sub other))) [
      | inl one ↦
          let e : sub ≡ other = equal_subs sub other same one in
          rw (one, same_where_equal sub other, one, is, e) refl
      | inr apart ↦ rw (apart, same_where_equal sub other, apart) (are other)
    ]

pub all_tallies : (terms : TermsView) (grow : AccountsGrow) (tallies : List (Sub × Tally)) (batch : List AdditionView) (tally : Sub → Tally) (held : Held) → SameAreEqual → are_apart (subs_of batch) ≡ true
    → AreReady terms tallies held batch → ((s : Sub) → tally s ≡ tally_for terms (held s)) → (other : Sub) → tallies_after (steps_behind tallies batch) tally other ≡ tally_for terms (with_all batch held other)
all_tallies terms grow tallies [] tally held same apart ready are other = are other
all_tallies terms grow tallies (one ∷ batch) tally held same apart ready are other =
    let next = (step_behind (tally_in tallies one.sub) one).next in
    all_tallies terms grow tallies batch (with_tally one.sub next tally) (with_act one.sub one.act held) same (and_parts _ _ apart).1
    (still_ready terms tallies held one.sub one.act batch (and_parts _ _ apart).0 ready.1)
    (one_tally terms tally held one.sub one.act next same are (next_is terms tallies held one grow ready.0.0 ready.0.1)) other

-- tallies that are set alike
pub after_alike : (steps : List StepView) (one two : Sub → Tally) → ((s : Sub) → one s ≡ two s) → (other : Sub) → tallies_after steps one other ≡ tallies_after steps two other
after_alike [] one two same other = same other
after_alike (step ∷ steps) one two same other =
    after_alike steps (with_tally step.one.sub step.next one) (with_tally step.one.sub step.next two) (λ s. ap (λ (tally : Tally). cond (is_eq (sub_order step.one.sub s)) step.next tally) (same s)) other

-- the tallies once one step more is set
pub set_more : (steps : List StepView) (i : ℕ) (step : StepView) (sub : Sub) (next : Tally) (now after : Sub → Tally) (wanted : Sub → Tally) → i < length steps → step ≡ get_or steps i step → sub ≡ step.one.sub → next ≡ step.next
    → ((other : Sub) → after other ≡ with_tally sub next now other) → ((other : Sub) → tallies_after (drop i steps) now other ≡ wanted other) → (other : Sub) → tallies_after (drop (i + 1) steps) after other ≡ wanted other
set_more steps i step sub next now after wanted below is sub_is next_is set so_far other =
    after_alike (drop (i + 1) steps) after (with_tally step.one.sub step.next now)
    (λ s. set s ∙ ap₂ (λ (it : Sub) (tally : Tally). with_tally it tally now s) sub_is next_is) other
    ∙ ap (λ (left : List StepView). tallies_after left now other) (sym (split steps i step below is)) ∙ so_far other
  where
    split : (steps : List StepView) (i : ℕ) (step : StepView) → i < length steps → step ≡ get_or steps i step → drop i steps ≡ step ∷ drop (i + 1) steps
    split steps i step below is = rw add-one (drop-cons steps i step below ∙ ap (λ (x : StepView). x ∷ drop (suc i) steps) (sym is))

-- the first of the places that are left, and the others
pub places_left : (tallies : List (Sub × Tally)) (steps : List StepView) (i : ℕ) (step : StepView) → i < length steps → step ≡ get_or steps i step → HavePlaces tallies (drop i steps)
    → HasPlace tallies step.one.sub × HavePlaces tallies (drop (i + 1) steps)
places_left tallies steps i step below is places =
    let split : drop i steps ≡ step ∷ drop (i + 1) steps = rw add-one (drop-cons steps i step below ∙ ap (λ (x : StepView). x ∷ drop (suc i) steps) (sym is)) in
    subst (HavePlaces tallies) split places

-- ---- books that agree

pub all_alike : (batch : List AdditionView) (a b : Held) → ((s : Sub) → a s ≡ b s) → (s : Sub) → with_all batch a s ≡ with_all batch b s
all_alike [] a b same s = same s
all_alike (one ∷ batch) a b same s =
    all_alike batch (with_act one.sub one.act a) (with_act one.sub one.act b) (λ t. ap (λ (xs : List Act). cond (same_sub one.sub t) (xs ++ one.act ∷ []) xs) (same t)) s
