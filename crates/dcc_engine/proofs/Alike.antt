-- A subscriber's answers are a function of what its own events asked but for hosts.
use Rattle.std.proofs.Common.{◌≡◌, Bool, List, [], ◌∷◌, ◌++◌, map, reverse, Option, refl, sym, ap, ◌∙◌, ℕ}
use Rattle.std.proofs.lemmas.List.{map-append}
use Rattle.dcc_act.specs.declared.act.Act.{Act}
use Rattle.dcc_act.specs.declared.outcome.Outcome.{Outcome}
use Rattle.dcc_act.specs.declared.sub.Sub.{Sub}
use Rattle.dcc_model.specs.Laws.{LaterChangesNothing, LastComesAfter}
use Rattle.dcc_model.specs.Outcomes.{after, place, is_new}
use Rattle.dcc_hosts.specs.Hosts.{unhosted, AreAlike}
use Rattle.dcc_hosts.specs.Laws.{AfterIsUnhosted, NewIsUnhosted, PlaceIsUnhosted}
use Rattle.dcc_dispatch.specs.Settings.{Setting}
use Rattle.dcc_shard.specs.Answers.{told}
use Rattle.dcc_engine.specs.Asks.{Turn, Ask, Source, Said, answer_to, said_from}
use Rattle.dcc_engine.specs.Engines.{EngineView, held_of}
use Rattle.dcc_engine.specs.Isolation.{IsRun, asks_after, own, own_asks, answers, unhosted_ask, AsksAreAlike}
use Rattle.dcc_engine.proofs.OwnAnswers.{acts_of, said_after, told_to, answers_are, past_from, reverse_same, told_setting, own_asked}
use Rattle.dcc_engine.proofs.Runs.{reverse_cons}

-- what is said of what an act comes to
said_unhosted : AfterIsUnhosted → NewIsUnhosted → PlaceIsUnhosted → (setting : Setting) (before : List Act) (act : Act) (source : Source)
    → said_from setting (map unhosted before) (unhosted act) source (after setting.plan.terms (map unhosted before) (unhosted act))
    ≡ said_from setting before act source (after setting.plan.terms before act)
said_unhosted comes is_made stands setting before act (Source.Message message) = ap (λ (o : Outcome). Said.Octets (answer_to setting message o)) (comes setting.plan.terms before act)
said_unhosted comes is_made stands setting before act Source.TopUp =
    let terms = setting.plan.terms in
    ap (λ (o : Outcome). Said.Told (told o (place terms (map unhosted before) (unhosted act)) (is_new terms (map unhosted before) (unhosted act)))) (comes terms before act)
    ∙ ap (λ (at : Option ℕ). Said.Told (told (after terms before act) at (is_new terms (map unhosted before) (unhosted act)))) (stands terms before act)
    ∙ ap (λ (fresh : Bool). Said.Told (told (after terms before act) (place terms before act) fresh)) (is_made terms before act)
said_unhosted comes is_made stands setting before act Source.Sweep = refl

acts_unhosted : (asks : List Ask) → acts_of (map unhosted_ask asks) ≡ map unhosted (acts_of asks)
acts_unhosted [] = refl
acts_unhosted (ask ∷ asks) =
    reverse_cons (unhosted ask.act) (map (λ (b : Ask). b.act) (map unhosted_ask asks))
    ∙ ap (λ (xs : List Act). xs ++ unhosted ask.act ∷ []) (acts_unhosted asks)
    ∙ sym (map-append unhosted (acts_of asks) (ask.act ∷ []))
    ∙ ap (map unhosted) (sym (reverse_cons ask.act (map (λ (b : Ask). b.act) asks)))

told_unhosted : AfterIsUnhosted → NewIsUnhosted → PlaceIsUnhosted → (setting : Setting) (held : List Act) (asks : List Ask)
    → told_to setting (map unhosted held) (map unhosted_ask asks) ≡ told_to setting held asks
unfolding told_to said_after
told_unhosted comes is_made stands setting held [] = refl
told_unhosted comes is_made stands setting held (ask ∷ earlier) =
    let lists : map unhosted held ++ acts_of (map unhosted_ask earlier) ≡ map unhosted (held ++ acts_of earlier) =
    ap (λ (xs : List Act). map unhosted held ++ xs) (acts_unhosted earlier) ∙ sym (map-append unhosted held (acts_of earlier)) in
    ap (λ (xs : List Act). said_after setting xs (unhosted_ask ask) ∷ told_to setting (map unhosted held) (map unhosted_ask earlier)) lists
    ∙ ap (λ (x : Said). x ∷ told_to setting (map unhosted held) (map unhosted_ask earlier)) (said_unhosted comes is_made stands setting (held ++ acts_of earlier) ask.act ask.source)
    ∙ ap (λ (xs : List Said). said_after setting (held ++ acts_of earlier) ask ∷ xs) (told_unhosted comes is_made stands setting held earlier)

asks_reversed : (asks : List Ask) → map unhosted_ask (reverse asks) ≡ reverse (map unhosted_ask asks)
asks_reversed [] = refl
asks_reversed (ask ∷ asks) =
    ap (map unhosted_ask) (reverse_cons ask asks)
    ∙ map-append unhosted_ask (reverse asks) (ask ∷ [])
    ∙ ap (λ (xs : List Ask). xs ++ unhosted_ask ask ∷ []) (asks_reversed asks)
    ∙ sym (reverse_cons (unhosted_ask ask) (map unhosted_ask asks))

pub alike_answers : LaterChangesNothing → LastComesAfter → AfterIsUnhosted → NewIsUnhosted → PlaceIsUnhosted → (sub : Sub) (a b : EngineView) (xs ys : List Turn) → IsRun a xs → IsRun b ys
    → a.setting.identity ≡ b.setting.identity → a.setting.plan.terms ≡ b.setting.plan.terms
    → AreAlike (held_of a sub) (held_of b sub) → AsksAreAlike (own_asks a xs sub) (own_asks b ys sub) → answers a xs sub ≡ answers b ys sub
alike_answers law last comes is_made stands sub a b xs ys first second identity terms held asks =
    let ones = asks_after a (reverse xs) sub in
    let others = asks_after b (reverse ys) sub in
    let same : map unhosted_ask ones ≡ map unhosted_ask others =
    reverse_same (map unhosted_ask ones) (map unhosted_ask others) (sym (asks_reversed ones) ∙ asks ∙ asks_reversed others) in
    ap reverse (answers_are a (reverse xs) sub (past_from law last a xs first [] (reverse xs) refl)
    ∙ told_setting a.setting b.setting (held_of a sub) ones identity terms
    ∙ sym (told_unhosted comes is_made stands b.setting (held_of a sub) ones)
    ∙ ap (λ (h : List Act). told_to b.setting h (map unhosted_ask ones)) held
    ∙ ap (told_to b.setting (map unhosted (held_of b sub))) same
    ∙ told_unhosted comes is_made stands b.setting (held_of b sub) others
    ∙ sym (answers_are b (reverse ys) sub (past_from law last b ys second [] (reverse ys) refl)))

asked_unhosted : (asks : List Ask) → map unhosted (map (λ (b : Ask). b.act) asks) ≡ map (λ (b : Ask). b.act) (map unhosted_ask asks)
asked_unhosted [] = refl
asked_unhosted (ask ∷ asks) = ap (λ (xs : List Act). unhosted ask.act ∷ xs) (asked_unhosted asks)

own_unhosted : (sub : Sub) (a : EngineView) (xs : List Turn) → map unhosted (own a xs sub) ≡ map unhosted (held_of a sub) ++ map (λ (b : Ask). b.act) (map unhosted_ask (own_asks a xs sub))
own_unhosted sub a xs =
    ap (map unhosted) (own_asked a xs sub)
    ∙ map-append unhosted (held_of a sub) (map (λ (b : Ask). b.act) (own_asks a xs sub))
    ∙ ap (λ (acts : List Act). map unhosted (held_of a sub) ++ acts) (asked_unhosted (own_asks a xs sub))

pub alike_own : (sub : Sub) (a b : EngineView) (xs ys : List Turn) → AreAlike (held_of a sub) (held_of b sub) → AsksAreAlike (own_asks a xs sub) (own_asks b ys sub) → AreAlike (own a xs sub) (own b ys sub)
alike_own sub a b xs ys held asks =
    own_unhosted sub a xs
    ∙ ap (λ (acts : List Act). acts ++ map (λ (x : Ask). x.act) (map unhosted_ask (own_asks a xs sub))) held
    ∙ ap (λ (same : List Ask). map unhosted (held_of b sub) ++ map (λ (x : Ask). x.act) same) asks
    ∙ sym (own_unhosted sub b ys)
