-- A subscriber's answers are a function of the acts held before and of what its own events asked.
use Rattle.std.proofs.Common.{◌≡◌, ℕ, ◌+◌, List, [], ◌∷◌, ◌++◌, length, map, take, reverse, Option, Some, None, refl, sym, ap, subst, ◌∙◌, arith, inl, inr}
use Rattle.std.specs.Prelude.{slice_get}
use Rattle.std.proofs.lemmas.Bool.{cases_Bool}
use Rattle.std.proofs.lemmas.List.{append_assoc, append-nil, map-append, reverse-append, reverse-reverse, length-reverse, length-append, take_at, get_or_at}
use Rattle.std.proofs.lemmas.Option.{slice_get-get_or}
use Rattle.dcc_act.specs.declared.act.Act.{Act}
use Rattle.dcc_act.specs.declared.sub.Sub.{Sub}
use Rattle.dcc_model.specs.Laws.{LaterChangesNothing, LastComesAfter}
use Rattle.dcc_model.specs.Outcomes.{outcome, after}
use Rattle.dcc_dispatch.specs.Settings.{Setting}
use Rattle.dcc_engine.specs.Asks.{Turn, Ask, Said, is_refused_for, IsAnsweredFor, IsOut, said_of, said_by, own_with}
use Rattle.dcc_engine.specs.Engines.{EngineView, held_of}
use Rattle.dcc_engine.specs.Isolation.{before_of, asked, own, IsAnswered, IsRun, with_own, asks_after, answers_after, own_asks, answers}
use Rattle.dcc_engine.specs.inner.Turns.{IsNext}
use Rattle.dcc_engine.specs.declared.event.Out.{Out}
use Rattle.dcc_engine.proofs.Moves.{said_setting}
use Rattle.dcc_engine.proofs.Pasts.{IsPast}
use Rattle.dcc_engine.proofs.Runs.{answered_at, place_is, reverse_cons}

-- the acts that asks ask, the latest ask first
abbrev pub acts_of : List Ask → List Act
acts_of asks = reverse (map (λ (ask : Ask). ask.act) asks)

-- what is said of an ask that comes after these entries
unfoldable pub said_after : Setting → List Act → Ask → Said
said_after setting before ask = said_of setting before ask (after setting.plan.terms before ask.act)

-- what asks are told, the latest first, where these acts were held before
unfoldable pub told_to : Setting → List Act → List Ask → List Said
told_to setting held [] = []
told_to setting held (ask ∷ earlier) = said_after setting (held ++ acts_of earlier) ask ∷ told_to setting held earlier

acts_cons : (ask : Ask) (asks : List Ask) → acts_of (ask ∷ asks) ≡ acts_of asks ++ ask.act ∷ []
acts_cons ask asks = reverse_cons ask.act (map (λ (b : Ask). b.act) asks)

-- the same acts behind others
pub own_more : (held : List Act) (o : Option Ask) (out : Out) (sub : Sub) (before : List Act) (asks : List Ask) → before ≡ held ++ acts_of asks
    → own_with o out sub before ≡ held ++ acts_of (with_own o out sub (λ ask. ask) asks)
own_more held None out sub before asks is = is
own_more held (Some ask) out sub before asks is =
    elim (cases_Bool (is_refused_for ask out sub)) [
      | inl t ↦ rw t is
      | inr f ↦ rw f (ap (λ (xs : List Act). xs ++ ask.act ∷ []) is ∙ append_assoc held (acts_of asks) (ask.act ∷ []) ∙ ap (λ (xs : List Act). held ++ xs) (sym (acts_cons ask asks)))
    ]

pub own_is : (engine : EngineView) (past : List Turn) (sub : Sub) → (before_of engine past).own sub ≡ held_of engine sub ++ acts_of (asks_after engine past sub)
own_is engine [] sub = sym (append-nil (held_of engine sub))
own_is engine (turn ∷ past) sub =
    own_more (held_of engine sub) (asked engine past turn.event sub) turn.out sub ((before_of engine past).own sub) (asks_after engine past sub) (own_is engine past sub)

pub map-reverse : (asks : List Ask) → map (λ (ask : Ask). ask.act) (reverse asks) ≡ acts_of asks
map-reverse [] = refl
map-reverse (ask ∷ asks) =
    ap (map (λ (b : Ask). b.act)) (reverse_cons ask asks) ∙ map-append (λ (b : Ask). b.act) (reverse asks) (ask ∷ []) ∙ ap (λ (xs : List Act). xs ++ ask.act ∷ []) (map-reverse asks) ∙ sym (reverse_cons ask.act (map (λ (b : Ask). b.act) asks))

pub own_asked : (engine : EngineView) (all : List Turn) (sub : Sub) → own engine all sub ≡ held_of engine sub ++ map (λ (ask : Ask). ask.act) (own_asks engine all sub)
own_asked engine all sub = own_is engine (reverse all) sub ∙ ap (λ (xs : List Act). held_of engine sub ++ xs) (sym (map-reverse (asks_after engine (reverse all) sub)))

answers_more : (engine : EngineView) (past : List Turn) (turn : Turn) (sub : Sub) (o : Option Ask)
    → ((ask : Ask) → o ≡ Some ask
    → IsAnsweredFor engine.setting ((before_of engine past).own sub) ask sub turn.out (Some (after engine.setting.plan.terms ((before_of engine past).own sub) ask.act)))
    → answers_after engine past sub ≡ told_to engine.setting (held_of engine sub) (asks_after engine past sub)
    → with_own o turn.out sub (λ ask. said_by ask.source turn.out) (answers_after engine past sub)
    ≡ told_to engine.setting (held_of engine sub) (with_own o turn.out sub (λ ask. ask) (asks_after engine past sub))
unfolding told_to said_after
answers_more engine past turn sub None is before = before
answers_more engine past turn sub (Some ask) is before =
    elim (cases_Bool (is_refused_for ask turn.out sub)) [
      | inl t ↦ rw t before
      | inr f ↦
          let setting = engine.setting in
          let asks = asks_after engine past sub in
          let here_is = is ask refl in
          let answered : Some (said_by ask.source turn.out) ≡ Some (said_after setting ((before_of engine past).own sub) ask) = rw f at here_is in
          let said : said_by ask.source turn.out ≡ said_after setting ((before_of engine past).own sub) ask = cc in
          let here : said_by ask.source turn.out ≡ said_after setting (held_of engine sub ++ acts_of asks) ask = said ∙ ap (λ (xs : List Act). said_after setting xs ask) (own_is engine past sub) in
          rw f (ap (λ (x : Said). x ∷ answers_after engine past sub) here ∙ ap (λ (xs : List Said). said_after setting (held_of engine sub ++ acts_of asks) ask ∷ xs) before)
    ]

pub answers_are : (engine : EngineView) (past : List Turn) (sub : Sub) → IsPast engine past → answers_after engine past sub ≡ told_to engine.setting (held_of engine sub) (asks_after engine past sub)
unfolding told_to
answers_are engine [] sub h = refl
answers_are engine (turn ∷ past) sub h = answers_more engine past turn sub (asked engine past turn.event sub) (h.0.subscribers sub) (answers_are engine past sub h.1)

-- from places back to looking back
slice_get_here : (before after : List Turn) (turn : Turn) (k : ℕ) → length before ≡ k → slice_get (before ++ turn ∷ after) k ≡ Some turn
slice_get_here before after turn k len =
    slice_get-get_or (before ++ turn ∷ after) k turn (omega (arith, length-append before (turn ∷ after))) ∙ ap (λ (x : Turn). Some x) (get_or_at before turn after turn k len)

next_from : LaterChangesNothing → LastComesAfter → (engine : EngineView) (all later past : List Turn) (turn : Turn) (k : ℕ) → reverse all ≡ later ++ (turn ∷ past) → reverse (take k all) ≡ past
    → IsAnswered engine all k turn → IsNext engine.setting (before_of engine past) turn
next_from law last engine all later past turn k e back answered =
    let terms = engine.setting.plan.terms in
    let place_at : List Turn → Sub → ℕ = λ p sub. length ((before_of engine p).own sub) + 1 in
    record {
      subscribers = λ sub ask is.
          let before = (before_of engine past).own sub in
          let told : IsAnsweredFor engine.setting ((before_of engine (reverse (take k all))).own sub) ask sub turn.out (outcome terms (own engine all sub) (place_at (reverse (take k all)) sub)) =
          answered.subscribers sub ask (ap (λ (p : List Turn). asked engine p turn.event sub) back ∙ is) in
          answered_at engine.setting before ask sub turn.out (outcome terms (own engine all sub) (place_at past sub)) (Some (after terms before ask.act))
          (λ f. ap (λ (zs : List Turn). outcome terms ((before_of engine zs).own sub) (place_at past sub)) e ∙ sym (place_is law last engine later past turn sub ask is f))
          (subst (λ (p : List Turn). IsAnsweredFor engine.setting ((before_of engine p).own sub) ask sub turn.out (outcome terms (own engine all sub) (place_at p sub))) back told);
      whole = subst (λ (p : List Turn). IsOut engine.setting (before_of engine p) turn.event turn.out) back answered.whole;
    }

pub past_from : LaterChangesNothing → LastComesAfter → (engine : EngineView) (all : List Turn) → IsRun engine all → (later past : List Turn) → reverse all ≡ later ++ past → IsPast engine past
past_from law last engine all run later [] e = tt
past_from law last engine all run later (turn ∷ past) e =
    let k = length past in
    let parts : all ≡ reverse past ++ (turn ∷ reverse later) =
    sym (reverse-reverse all) ∙ ap reverse e ∙ reverse-append later (turn ∷ past) ∙ ap (λ (xs : List Turn). xs ++ reverse later) (reverse_cons turn past) ∙ append_assoc (reverse past) (turn ∷ []) (reverse later) in
    let at : slice_get all k ≡ Some turn = ap (λ (xs : List Turn). slice_get xs k) parts ∙ slice_get_here (reverse past) (reverse later) turn k (length-reverse past) in
    let back : reverse (take k all) ≡ past = ap (λ (xs : List Turn). reverse (take k xs)) parts ∙ ap reverse (take_at (reverse past) (turn ∷ reverse later) k (length-reverse past)) ∙ reverse-reverse past in
    (next_from law last engine all later past turn k e back (run k turn at), past_from law last engine all run (later ++ turn ∷ []) past (e ∙ sym (append_assoc later (turn ∷ []) past)))

pub reverse_same : {X : Type 0} (xs ys : List X) → reverse xs ≡ reverse ys → xs ≡ ys
reverse_same xs ys e = sym (reverse-reverse xs) ∙ ap reverse e ∙ reverse-reverse ys

-- who answers and the terms are all that what is told takes of a setting
pub told_setting : (a b : Setting) (held : List Act) (asks : List Ask) → a.identity ≡ b.identity → a.plan.terms ≡ b.plan.terms → told_to a held asks ≡ told_to b held asks
unfolding told_to said_after
told_setting a b held [] identity terms = refl
told_setting a b held (ask ∷ earlier) identity terms =
    let before = held ++ acts_of earlier in
    let here : said_after a before ask ≡ said_after b before ask =
    said_setting a b before ask.act ask.source (after a.plan.terms before ask.act) identity terms ∙ ap (λ t. said_of b before ask (after t before ask.act)) terms in
    ap (λ (x : Said). x ∷ told_to a held earlier) here ∙ ap (λ (xs : List Said). said_after b before ask ∷ xs) (told_setting a b held earlier identity terms)

pub same_answers : LaterChangesNothing → LastComesAfter → (sub : Sub) (a b : EngineView) (xs ys : List Turn) → IsRun a xs → IsRun b ys → a.setting.identity ≡ b.setting.identity
    → a.setting.plan.terms ≡ b.setting.plan.terms → held_of a sub ≡ held_of b sub → own_asks a xs sub ≡ own_asks b ys sub → answers a xs sub ≡ answers b ys sub
same_answers law last sub a b xs ys first second identity terms held asks =
    let same = reverse_same (asks_after a (reverse xs) sub) (asks_after b (reverse ys) sub) asks in
    ap reverse (answers_are a (reverse xs) sub (past_from law last a xs first [] (reverse xs) refl)
    ∙ told_setting a.setting b.setting (held_of a sub) (asks_after a (reverse xs) sub) identity terms
    ∙ ap (λ (h : List Act). told_to b.setting h (asks_after a (reverse xs) sub)) held ∙ ap (told_to b.setting (held_of b sub)) same
    ∙ sym (answers_are b (reverse ys) sub (past_from law last b ys second [] (reverse ys) refl)))

pub same_own : (sub : Sub) (a b : EngineView) (xs ys : List Turn) → held_of a sub ≡ held_of b sub → own_asks a xs sub ≡ own_asks b ys sub → own a xs sub ≡ own b ys sub
same_own sub a b xs ys held asks =
    own_asked a xs sub ∙ ap (λ (h : List Act). h ++ map (λ (x : Ask). x.act) (own_asks a xs sub)) held ∙ ap (λ (q : List Ask). held_of b sub ++ map (λ (x : Ask). x.act) q) asks ∙ sym (own_asked b ys sub)
