-- Two runs in turn.
use Rattle.std.proofs.Common.{◌≡◌, ℕ, List, [], ◌∷◌, ◌++◌, map, reverse, Option, Some, None, refl, sym, ap, subst, ◌∙◌, inl, inr}
use Rattle.std.proofs.lemmas.Bool.{cases_Bool}
use Rattle.std.proofs.lemmas.List.{append-nil, reverse-append}
use Rattle.dcc_act.specs.declared.act.Act.{Act}
use Rattle.dcc_act.specs.declared.sub.Sub.{Sub}
use Rattle.dcc_tariff.specs.Terms.{TermsView}
use Rattle.dcc_model.specs.Laws.{LaterChangesNothing, LastComesAfter}
use Rattle.dcc_model.specs.Outcomes.{acts}
use Rattle.dcc_dispatch.specs.Settings.{Setting}
use Rattle.dcc_engine.specs.Asks.{Turn, Ask, Said, ask_for, is_refused_for, own_with, moved_by, said_by}
use Rattle.dcc_engine.specs.Engines.{EngineView}
use Rattle.dcc_engine.specs.Isolation.{before_of, asked, own, peers, IsRun, Follows, with_own, asks_after, answers_after, own_asks, answers}
use Rattle.dcc_engine.specs.inner.Turns.{IsNext}
use Rattle.dcc_engine.specs.declared.event.Out.{Out}
use Rattle.dcc_engine.proofs.Covering.{Covers, covers}
use Rattle.dcc_engine.proofs.Moves.{AreStable, AreAlike, ask_moved, next_moved}
use Rattle.dcc_engine.proofs.Pasts.{IsPast}
use Rattle.dcc_engine.proofs.Runs.{run_from_past}
use Rattle.dcc_engine.proofs.OwnAnswers.{acts_of, own_more, own_is, map-reverse, past_from}

peers_joined : (a b : EngineView) (xs past : List Turn) → Follows a b xs → (id : ℕ) → (before_of b past).peers id ≡ (before_of a (past ++ reverse xs)).peers id
peers_joined a b xs [] follows id = follows.peers_are id
peers_joined a b xs (turn ∷ past) follows id =
    ap (λ (s : Setting). moved_by s id turn ((before_of b past).peers id)) follows.setting ∙ ap (moved_by a.setting id turn) (peers_joined a b xs past follows id)

own_alike : AreStable → (terms : TermsView) (o : Option Ask) (out : Out) (sub : Sub) (xs ys : List Act) → acts terms xs ≡ acts terms ys
    → acts terms (own_with o out sub xs) ≡ acts terms (own_with o out sub ys)
own_alike stable terms None out sub xs ys e = e
own_alike stable terms (Some ask) out sub xs ys e =
    elim (cases_Bool (is_refused_for ask out sub)) [
      | inl t ↦ rw t e
      | inr f ↦ rw f (sym (stable.acts_stay terms xs (ask.act ∷ [])) ∙ ap (λ (zs : List Act). acts terms (zs ++ ask.act ∷ [])) e ∙ stable.acts_stay terms ys (ask.act ∷ []))
    ]

-- the second run stands where the two in turn do, though who is listed may differ
alike_joined : AreStable → (a b : EngineView) (xs past : List Turn) → Follows a b xs → AreAlike a.setting.plan.terms (before_of b past) (before_of a (past ++ reverse xs))
alike_joined stable a b xs [] follows =
    let terms = a.setting.plan.terms in
    record {
      peers_are = follows.peers_are;
      acts_are = λ sub. ap (acts terms) (follows.held sub) ∙ stable.whole terms (own a xs sub);
      first = subst (λ (s : Setting). Covers s.plan.terms (before_of b [])) follows.setting (covers stable.same_are_equal stable.one_opens b []);
      second = covers stable.same_are_equal stable.one_opens a (reverse xs);
    }
alike_joined stable a b xs (turn ∷ past) follows =
    let terms = a.setting.plan.terms in
    let one = before_of b past in
    let other = before_of a (past ++ reverse xs) in
    let alike = alike_joined stable a b xs past follows in
    record {
      peers_are = peers_joined a b xs (turn ∷ past) follows;
      acts_are = λ sub.
          ap (λ (s : Setting). acts terms (own_with (ask_for s one turn.event sub) turn.out sub (one.own sub))) follows.setting
          ∙ ap (λ (o : Option Ask). acts terms (own_with o turn.out sub (one.own sub))) (ask_moved stable a.setting one other sub alike turn.event)
          ∙ own_alike stable terms (ask_for a.setting other turn.event sub) turn.out sub (one.own sub) (other.own sub) (alike.acts_are sub);
      first = subst (λ (s : Setting). Covers s.plan.terms (before_of b (turn ∷ past))) follows.setting (covers stable.same_are_equal stable.one_opens b (turn ∷ past));
      second = covers stable.same_are_equal stable.one_opens a ((turn ∷ past) ++ reverse xs);
    }

asked_joined : AreStable → (a b : EngineView) (xs past : List Turn) (turn : Turn) (sub : Sub) → Follows a b xs → asked b past turn.event sub ≡ asked a (past ++ reverse xs) turn.event sub
asked_joined stable a b xs past turn sub follows =
    ap (λ (s : Setting). ask_for s (before_of b past) turn.event sub) follows.setting
    ∙ ask_moved stable a.setting (before_of b past) (before_of a (past ++ reverse xs)) sub (alike_joined stable a b xs past follows) turn.event

own_joined : AreStable → (a b : EngineView) (xs past : List Turn) (sub : Sub) → Follows a b xs → (before_of a (past ++ reverse xs)).own sub ≡ own a xs sub ++ acts_of (asks_after b past sub)
own_joined stable a b xs [] sub follows = sym (append-nil (own a xs sub))
own_joined stable a b xs (turn ∷ past) sub follows =
    ap (λ (o : Option Ask). own_with o turn.out sub ((before_of a (past ++ reverse xs)).own sub)) (sym (asked_joined stable a b xs past turn sub follows))
    ∙ own_more (own a xs sub) (asked b past turn.event sub) turn.out sub ((before_of a (past ++ reverse xs)).own sub) (asks_after b past sub) (own_joined stable a b xs past sub follows)

past_joined : AreStable → (a b : EngineView) (xs past : List Turn) → Follows a b xs → IsPast a (reverse xs) → IsPast b past → IsPast a (past ++ reverse xs)
past_joined stable a b xs [] follows before second = before
past_joined stable a b xs (turn ∷ past) follows before second = (
  next_moved stable a.setting (before_of b past) (before_of a (past ++ reverse xs)) turn (alike_joined stable a b xs past follows)
      (subst (λ (s : Setting). IsNext s (before_of b past) turn) follows.setting second.0),
  past_joined stable a b xs past follows before second.1,
)

pub runs_joined : AreStable → LaterChangesNothing → LastComesAfter → (a b : EngineView) (xs ys : List Turn) → IsRun a xs → IsRun b ys → Follows a b xs → IsRun a (xs ++ ys)
runs_joined stable law last a b xs ys first second follows =
    let joined = past_joined stable a b xs (reverse ys) follows (past_from law last a xs first [] (reverse xs) refl) (past_from law last b ys second [] (reverse ys) refl) in
    run_from_past law last a (xs ++ ys) (subst (IsPast a) (sym (reverse-append xs ys)) joined)

pub held_in_turn : AreStable → (a b : EngineView) (xs ys : List Turn) → Follows a b xs → (sub : Sub) → acts b.setting.plan.terms (own b ys sub) ≡ acts a.setting.plan.terms (own a (xs ++ ys) sub)
held_in_turn stable a b xs ys follows sub =
    ap (λ (s : Setting). acts s.plan.terms (own b ys sub)) follows.setting ∙ (alike_joined stable a b xs (reverse ys) follows).acts_are sub
    ∙ ap (λ (past : List Turn). acts a.setting.plan.terms ((before_of a past).own sub)) (sym (reverse-append xs ys))

pub peers_in_turn : (a b : EngineView) (xs ys : List Turn) → Follows a b xs → (id : ℕ) → peers b ys id ≡ peers a (xs ++ ys) id
peers_in_turn a b xs ys follows id = peers_joined a b xs (reverse ys) follows id ∙ ap (λ (past : List Turn). (before_of a past).peers id) (sym (reverse-append xs ys))

with_own_behind : {X : Type 0} (o : Option Ask) (out : Out) (sub : Sub) (x : Ask → X) (before more : List X) → with_own o out sub x (before ++ more) ≡ with_own o out sub x before ++ more
with_own_behind None out sub x before more = refl
with_own_behind (Some ask) out sub x before more =
    elim (cases_Bool (is_refused_for ask out sub)) [
      | inl t ↦ rw t refl
      | inr f ↦ rw f refl
    ]

asks_joined : AreStable → (a b : EngineView) (xs past : List Turn) (sub : Sub) → Follows a b xs → asks_after a (past ++ reverse xs) sub ≡ asks_after b past sub ++ asks_after a (reverse xs) sub
asks_joined stable a b xs [] sub follows = refl
asks_joined stable a b xs (turn ∷ past) sub follows =
    ap (λ (o : Option Ask). with_own o turn.out sub (λ ask. ask) (asks_after a (past ++ reverse xs) sub)) (sym (asked_joined stable a b xs past turn sub follows))
    ∙ ap (with_own (asked b past turn.event sub) turn.out sub (λ ask. ask)) (asks_joined stable a b xs past sub follows)
    ∙ with_own_behind (asked b past turn.event sub) turn.out sub (λ ask. ask) (asks_after b past sub) (asks_after a (reverse xs) sub)

answers_joined : AreStable → (a b : EngineView) (xs past : List Turn) (sub : Sub) → Follows a b xs → answers_after a (past ++ reverse xs) sub ≡ answers_after b past sub ++ answers_after a (reverse xs) sub
answers_joined stable a b xs [] sub follows = refl
answers_joined stable a b xs (turn ∷ past) sub follows =
    let x : Ask → Said = λ ask. said_by ask.source turn.out in
    ap (λ (o : Option Ask). with_own o turn.out sub x (answers_after a (past ++ reverse xs) sub)) (sym (asked_joined stable a b xs past turn sub follows))
    ∙ ap (with_own (asked b past turn.event sub) turn.out sub x) (answers_joined stable a b xs past sub follows)
    ∙ with_own_behind (asked b past turn.event sub) turn.out sub x (answers_after b past sub) (answers_after a (reverse xs) sub)

pub asks_in_turn : AreStable → (a b : EngineView) (xs ys : List Turn) → Follows a b xs → (sub : Sub) → own_asks a (xs ++ ys) sub ≡ own_asks a xs sub ++ own_asks b ys sub
asks_in_turn stable a b xs ys follows sub =
    ap (λ (past : List Turn). reverse (asks_after a past sub)) (reverse-append xs ys) ∙ ap reverse (asks_joined stable a b xs (reverse ys) sub follows)
    ∙ reverse-append (asks_after b (reverse ys) sub) (asks_after a (reverse xs) sub)

pub answers_in_turn : AreStable → (a b : EngineView) (xs ys : List Turn) → Follows a b xs → (sub : Sub) → answers a (xs ++ ys) sub ≡ answers a xs sub ++ answers b ys sub
answers_in_turn stable a b xs ys follows sub =
    ap (λ (past : List Turn). reverse (answers_after a past sub)) (reverse-append xs ys) ∙ ap reverse (answers_joined stable a b xs (reverse ys) sub follows)
    ∙ reverse-append (answers_after b (reverse ys) sub) (answers_after a (reverse xs) sub)

pub own_in_turn : AreStable → (a b : EngineView) (xs ys : List Turn) → Follows a b xs → (sub : Sub) → own a (xs ++ ys) sub ≡ own a xs sub ++ map (λ (ask : Ask). ask.act) (own_asks b ys sub)
own_in_turn stable a b xs ys follows sub =
    ap (λ (past : List Turn). (before_of a past).own sub) (reverse-append xs ys) ∙ own_joined stable a b xs (reverse ys) sub follows
    ∙ ap (λ (more : List Act). own a xs sub ++ more) (sym (map-reverse (asks_after b (reverse ys) sub)))
