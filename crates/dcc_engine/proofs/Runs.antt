-- One event more, and from looking back to places.
use Rattle.std.proofs.Common.{◌≡◌, ℕ, ◌+◌, ◌<◌, false, List, [], ◌∷◌, ◌++◌, length, get_or, take, drop, reverse, Option, Some, None, refl, sym, ap, subst, ◌∙◌, arith, inl, inr}
use Rattle.std.specs.Prelude.{slice_get, option_map}
use Rattle.std.proofs.lemmas.Bool.{cases_Bool}
use Rattle.std.proofs.lemmas.List.{append_assoc, append-nil, take_more, drop_more, length-append, length-take-le, reverse-append, take-append-drop}
use Rattle.std.proofs.lemmas.Option.{slice_get_within, get_or_from_slice_get}
use Rattle.dcc_act.specs.declared.act.Act.{Act}
use Rattle.dcc_act.specs.declared.outcome.Outcome.{Outcome}
use Rattle.dcc_act.specs.declared.sub.Sub.{Sub}
use Rattle.dcc_tariff.specs.Terms.{TermsView}
use Rattle.dcc_model.specs.Laws.{LaterChangesNothing, LastComesAfter}
use Rattle.dcc_model.specs.Outcomes.{acts, outcome, after}
use Rattle.dcc_dispatch.specs.Settings.{Setting}
use Rattle.dcc_engine.specs.Asks.{Turn, Ask, ask_for, is_refused_for, IsAnsweredFor, said_of, own_with, moved_by}
use Rattle.dcc_engine.specs.Engines.{EngineView, held_of, peer_of}
use Rattle.dcc_engine.specs.Isolation.{turns, before_of, asked, own, entry_place, IsRun}
use Rattle.dcc_engine.specs.inner.Turns.{IsNext, IsTurnDone, now_of}
use Rattle.dcc_engine.specs.declared.event.Event.{Event}
use Rattle.dcc_engine.specs.declared.event.Out.{Out}
use Rattle.dcc_engine.proofs.Covering.{covers, now_covers}
use Rattle.dcc_engine.proofs.Moves.{AreStable, AreAlike, ask_moved, next_moved}
use Rattle.dcc_engine.proofs.Pasts.{IsPast}

pub reverse_cons : {X : Type 0} (x : X) (xs : List X) → reverse (x ∷ xs) ≡ reverse xs ++ x ∷ []
reverse_cons x xs = reverse-append (x ∷ []) xs

-- the turns with one more
turns_push : (events : List Event) (outs : List Out) (event : Event) (out : Out) → length outs ≡ length events → turns (events ++ event ∷ []) (outs ++ out ∷ []) ≡ turns events outs ++ record { event = event; out = out } ∷ []
turns_push [] [] event out same = refl
turns_push [] (o ∷ outs) event out same = absurd (omega arith)
turns_push (e ∷ events) [] event out same = absurd (omega arith)
turns_push (e ∷ events) (o ∷ outs) event out same = ap (λ (rest : List Turn). record { event = e; out = o } ∷ rest) (turns_push events outs event out (omega arith))

pub past_push : (events : List Event) (outs : List Out) (i : ℕ) (event : Event) (out : Out) → i < length events → event ≡ get_or events i event → length outs ≡ i
    → reverse (turns (take (i + 1) events) (outs ++ out ∷ [])) ≡ record { event = event; out = out } ∷ reverse (turns (take i events) outs)
past_push events outs i event out lt is same =
    let more : take (i + 1) events ≡ take i events ++ event ∷ [] = take_more events i event lt ∙ ap (λ (e : Event). take i events ++ e ∷ []) (sym is) in
    let len : length outs ≡ length (take i events) = same ∙ sym (length-take-le i events (omega arith)) in
    ap (λ (es : List Event). reverse (turns es (outs ++ out ∷ []))) more ∙ ap reverse (turns_push (take i events) outs event out len) ∙ reverse-append (turns (take i events) outs) (record { event = event; out = out } ∷ [])

pub answered_at : (setting : Setting) (before : List Act) (ask : Ask) (sub : Sub) (out : Out) (o p : Option Outcome) → (is_refused_for ask out sub ≡ false → o ≡ p)
    → IsAnsweredFor setting before ask sub out o → IsAnsweredFor setting before ask sub out p
answered_at setting before ask sub out o p same answered =
    elim (cases_Bool (is_refused_for ask out sub)) [
      | inl t ↦ let refusal = rw t at answered in rw t refusal
      | inr f ↦ let said = rw f at answered in rw f (said ∙ ap (λ (x : Option Outcome). option_map (said_of setting before ask) x) (same f))
    ]

own_acts : AreStable → (terms : TermsView) (o : Option Ask) (out : Out) (sub : Sub) (before : List Act) → acts terms (own_with o out sub (acts terms before)) ≡ acts terms (own_with o out sub before)
own_acts stable terms None out sub before = stable.whole terms before
own_acts stable terms (Some ask) out sub before =
    elim (cases_Bool (is_refused_for ask out sub)) [
      | inl t ↦ rw t (stable.whole terms before)
      | inr f ↦ rw f (stable.acts_stay terms before (ask.act ∷ []))
    ]

-- an engine stands where a past has led
pub record StandsAt (engine now : EngineView) (past : List Turn) : Type 0 where
  pub setting : now.setting ≡ engine.setting
  pub held : (sub : Sub) → held_of now sub ≡ acts engine.setting.plan.terms ((before_of engine past).own sub)
  pub peers_are : (id : ℕ) → peer_of now id ≡ (before_of engine past).peers id

-- so what it holds is like what was before
stands_alike : AreStable → (engine now : EngineView) (past : List Turn) → StandsAt engine now past → AreAlike engine.setting.plan.terms (now_of now) (before_of engine past)
stands_alike stable engine now past stands =
    let terms = engine.setting.plan.terms in
    record {
      peers_are = stands.peers_are;
      acts_are = λ sub. ap (acts terms) (stands.held sub) ∙ stable.whole terms ((before_of engine past).own sub);
      first = now_covers stable.same_are_equal terms (peer_of now) now.shard;
      second = covers stable.same_are_equal stable.one_opens engine past;
    }

-- one turn from where a past has led
pub turn_next : AreStable → (engine now new : EngineView) (past : List Turn) (turn : Turn) → StandsAt engine now past → IsTurnDone now new turn → IsNext engine.setting (before_of engine past) turn
turn_next stable engine now new past turn stands done =
    next_moved stable engine.setting (now_of now) (before_of engine past) turn (stands_alike stable engine now past stands)
    (subst (λ (s : Setting). IsNext s (now_of now) turn) stands.setting done.judged.next)

pub turn_stands : AreStable → (engine now new : EngineView) (past : List Turn) (turn : Turn) → StandsAt engine now past → IsTurnDone now new turn → StandsAt engine new (turn ∷ past)
turn_stands stable engine now new past turn stands done =
    let terms = engine.setting.plan.terms in
    let before = before_of engine past in
    record {
      setting = done.setting ∙ stands.setting;
      held = λ sub. done.judged.held sub
          ∙ ap (λ (s : Setting). acts s.plan.terms (own_with (ask_for s (now_of now) turn.event sub) turn.out sub (held_of now sub))) stands.setting
          ∙ ap (λ (o : Option Ask). acts terms (own_with o turn.out sub (held_of now sub))) (ask_moved stable engine.setting (now_of now) before sub (stands_alike stable engine now past stands) turn.event)
          ∙ ap (λ (xs : List Act). acts terms (own_with (asked engine past turn.event sub) turn.out sub xs)) (stands.held sub)
          ∙ own_acts stable terms (asked engine past turn.event sub) turn.out sub (before.own sub);
      peers_are = λ id. done.peers id ∙ ap (λ (s : Setting). moved_by s id turn (peer_of now id)) stands.setting ∙ ap (moved_by engine.setting id turn) (stands.peers_are id);
    }

-- later events only add to a subscriber's entries
more_acts : (o : Option Ask) (out : Out) (sub : Sub) (before : List Act) → (rest : List Act) × (own_with o out sub before ≡ before ++ rest)
more_acts None out sub before = ([], sym (append-nil before))
more_acts (Some ask) out sub before =
    elim (cases_Bool (is_refused_for ask out sub)) [
      | inl t ↦ ([], rw t (sym (append-nil before)))
      | inr f ↦ (ask.act ∷ [], rw f refl)
    ]

own_grows : (engine : EngineView) (later past : List Turn) (s : Sub) → (rest : List Act) × ((before_of engine (later ++ past)).own s ≡ (before_of engine past).own s ++ rest)
own_grows engine [] past s = ([], sym (append-nil ((before_of engine past).own s)))
own_grows engine (turn ∷ later) past s =
    let before = own_grows engine later past s in
    let here = more_acts (asked engine (later ++ past) turn.event s) turn.out s ((before_of engine (later ++ past)).own s) in
    (before.0 ++ here.0, here.1 ∙ ap (λ (xs : List Act). xs ++ here.0) before.1 ∙ append_assoc ((before_of engine past).own s) before.0 here.0)

-- a moment within a past
past_at : (engine : EngineView) (later : List Turn) (turn : Turn) (past : List Turn) → IsPast engine (later ++ turn ∷ past) → IsNext engine.setting (before_of engine past) turn
past_at engine [] turn past h = h.0
past_at engine (last ∷ later) turn past h = past_at engine later turn past h.1

-- the outcome at a place is what the act came to at its moment
pub place_is : LaterChangesNothing → LastComesAfter → (engine : EngineView) (later past : List Turn) (turn : Turn) (sub : Sub) (ask : Ask) → asked engine past turn.event sub ≡ Some ask
    → is_refused_for ask turn.out sub ≡ false
    → Some (after engine.setting.plan.terms ((before_of engine past).own sub) ask.act)
    ≡ outcome engine.setting.plan.terms ((before_of engine (later ++ turn ∷ past)).own sub) (length ((before_of engine past).own sub) + 1)
place_is law last engine later past turn sub ask is counted =
    let terms = engine.setting.plan.terms in
    let before = (before_of engine past).own sub in
    let here : (before_of engine (turn ∷ past)).own sub ≡ before ++ ask.act ∷ [] = rw (is, counted) refl in
    let more = own_grows engine later (turn ∷ past) sub in
    let all : (before_of engine (later ++ turn ∷ past)).own sub ≡ (before ++ ask.act ∷ []) ++ more.0 = more.1 ∙ ap (λ (xs : List Act). xs ++ more.0) here in
    sym (ap (λ (xs : List Act). outcome terms xs (length before + 1)) all
    ∙ law terms (before ++ ask.act ∷ []) more.0 (length before + 1) (omega (arith, length-append before (ask.act ∷ [])))
    ∙ last terms before ask.act)

-- a list of turns at one of its places, looked back over
split_at : (all : List Turn) (k : ℕ) (turn : Turn) → slice_get all k ≡ Some turn → reverse all ≡ reverse (drop (k + 1) all) ++ turn ∷ reverse (take k all)
split_at all k turn at =
    let lt = slice_get_within all k turn at in
    let here : get_or all k turn ≡ turn = get_or_from_slice_get all k turn turn at in
    let parts : all ≡ take k all ++ (turn ∷ drop (k + 1) all) = sym (take-append-drop k all) ∙ ap (λ (xs : List Turn). take k all ++ xs) (drop_more all k turn lt ∙ ap (λ (x : Turn). x ∷ drop (k + 1) all) here) in
    ap reverse parts ∙ reverse-append (take k all) (turn ∷ drop (k + 1) all) ∙ ap (λ (xs : List Turn). xs ++ reverse (take k all)) (reverse_cons turn (drop (k + 1) all)) ∙ append_assoc (reverse (drop (k + 1) all)) (turn ∷ []) (reverse (take k all))

pub run_from_past : LaterChangesNothing → LastComesAfter → (engine : EngineView) (all : List Turn) → IsPast engine (reverse all) → IsRun engine all
run_from_past law last engine all h k turn at =
    let terms = engine.setting.plan.terms in
    let past = reverse (take k all) in
    let later = reverse (drop (k + 1) all) in
    let split = split_at all k turn at in
    let next = past_at engine later turn past (subst (IsPast engine) split h) in
    record {
      subscribers = λ sub ask is.
          let before = (before_of engine past).own sub in
          answered_at engine.setting before ask sub turn.out (Some (after terms before ask.act)) (outcome terms (own engine all sub) (entry_place engine (take k all) sub))
          (λ f. place_is law last engine later past turn sub ask is f ∙ ap (λ (zs : List Turn). outcome terms ((before_of engine zs).own sub) (entry_place engine (take k all) sub)) (sym split))
          (next.subscribers sub ask is);
      whole = next.whole;
    }
