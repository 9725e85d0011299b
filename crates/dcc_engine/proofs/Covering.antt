-- Whoever opened a session is listed.
use Rattle.std.proofs.Common.{◌≡◌, ℕ, Bool, true, false, ◌&&◌, ◌||◌, if◌then◌else◌, List, [], ◌∷◌, ◌++◌, map, Option, Some, None, refl, sym, ap, subst, ◌∙◌, inl, inr}
use Rattle.std.specs.Map.{lookup}
use Rattle.std.specs.Option.{option_map_or}
use Rattle.std.proofs.lemmas.Bool.{cases_Bool}
use Rattle.dcc_tariff.specs.Terms.{TermsView}
use Rattle.dcc_act.specs.Subs.{same_sub, SameAreEqual}
use Rattle.dcc_act.specs.TopUps.{is_amount}
use Rattle.dcc_act.specs.declared.act.Act.{Act}
use Rattle.dcc_act.specs.declared.sub.Sub.{Sub}
use Rattle.dcc_account.specs.declared.account.Account.{Account}
use Rattle.dcc_base.specs.declared.peer.Peer.{Peer}
use Rattle.dcc_model.specs.Laws.{OneMoreOpens}
use Rattle.dcc_model.specs.Outcomes.{after, is_new, was_opened_from}
use Rattle.dcc_model.specs.Sessions.{opens}
use Rattle.dcc_shard.specs.Answers.{expiry_act, top_up_act}
use Rattle.dcc_shard.specs.Shards.{ShardView, held_in, is_among}
use Rattle.dcc_dispatch.specs.Messages.{MessageView, Received, received_on}
use Rattle.dcc_dispatch.specs.Settings.{Setting}
use Rattle.dcc_dispatch.specs.declared.verdict.Verdict.{Verdict}
use Rattle.dcc_dispatch.specs.declared.verdict.Verdict.TheVariants as verdicts
use Rattle.dcc_engine.specs.Asks.{Turn, Ask, Source, request_ask, received_ask, ask_for, is_refused_for, own_with, verdict_owners, received_owners, owners_of}
use Rattle.dcc_engine.specs.Asks.Source.{TopUp, Sweep}
use Rattle.dcc_engine.specs.Engines.{EngineView}
use Rattle.dcc_engine.specs.Isolation.{before_of}
use Rattle.dcc_engine.specs.Openers.{Before, verdict_in}
use Rattle.dcc_engine.specs.declared.event.Event.{Event}
use Rattle.dcc_engine.specs.declared.event.Event.TheVariants as events
use Rattle.dcc_engine.specs.declared.event.Out.{Out}
use Rattle.dcc_engine.specs.inner.Turns.{now_with}
use Rattle.dcc_engine.proofs.Owners.{never}

abbrev pub Covers : TermsView → Before → Type 0
Covers terms before = (host sid : List ℕ) (sub : Sub) → was_opened_from terms (before.own sub) host sid ≡ true → is_among sub before.subs ≡ true

-- no acts have opened anything
none_opened : (terms : TermsView) (host sid : List ℕ) → was_opened_from terms [] host sid ≡ false
unfolding was_opened_from
none_opened terms host sid = refl

and_false : (b : Bool) → (b && false) ≡ false
and_false true = refl
and_false false = refl

or_behind : (b c : Bool) → b ≡ false → (b || c) ≡ c
or_behind b c e = rw e refl

-- an expiry opens nothing
expiry_opens_nothing : OneMoreOpens → (terms : TermsView) (xs : List Act) (moment : ℕ) (host sid : List ℕ)
    → was_opened_from terms (xs ++ expiry_act moment ∷ []) host sid ≡ was_opened_from terms xs host sid
expiry_opens_nothing law terms xs moment host sid =
    let act = expiry_act moment in
    let fresh = is_new terms xs act in
    let opened = opens (record { act = act; outcome = after terms xs act }) sid in
    let nothing : (fresh && (opened && false)) ≡ false = ap (λ (b : Bool). fresh && b) (and_false opened) ∙ and_false fresh in
    law terms xs act host sid ∙ or_behind (fresh && (opened && false)) (was_opened_from terms xs host sid) nothing

-- of whom something is held
rows_cover : SameAreEqual → (terms : TermsView) (host sid : List ℕ) (rows : List (Sub × Account)) (sub : Sub) → was_opened_from terms (held_in rows sub) host sid ≡ true
    → is_among sub (map (λ row. row.0) rows) ≡ true
rows_cover law terms host sid [] sub h = never (sym (none_opened terms host sid) ∙ h)
rows_cover law terms host sid (row ∷ rows) sub h = elim (cases_Bool (same_sub sub row.0)) [
  | inl t ↦ (let back : same_sub row.0 sub ≡ true = (law row.0 sub).1 (sym ((law sub row.0).0 t)) in rw back refl)
  | inr f ↦ (let later = rows_cover law terms host sid rows sub (rw f at h) in
      elim (cases_Bool (same_sub row.0 sub)) [
        | inl t ↦ rw t refl
        | inr n ↦ rw n later
      ])
]

pub now_covers : SameAreEqual → (terms : TermsView) (peers : ℕ → Option Peer) (shard : ShardView) → Covers terms (now_with peers shard)
now_covers law terms peers shard = λ host sid sub h. rows_cover law terms host sid shard.rows sub h

covers_owned : (terms : TermsView) (before : Before) → Covers terms before → (owner : Sub) (ask : Ask) (out : Out) (host sid : List ℕ) (sub : Sub)
    → was_opened_from terms (own_with (if same_sub owner sub then Some ask else None) out sub (before.own sub)) host sid ≡ true → is_among sub (owner ∷ before.subs) ≡ true
covers_owned terms before covers owner ask out host sid sub h = elim (cases_Bool (same_sub owner sub)) [
  | inl t ↦ rw t refl
  | inr f ↦ (let later : was_opened_from terms (before.own sub) host sid ≡ true = rw f at h in rw f (covers host sid sub later))
]

covers_asked : (terms : TermsView) (before : Before) → Covers terms before → (message : MessageView) (verdict : Verdict) (out : Out) (host sid : List ℕ) (sub : Sub)
    → was_opened_from terms (own_with (request_ask message verdict sub) out sub (before.own sub)) host sid ≡ true → is_among sub (verdict_owners verdict ++ before.subs) ≡ true
covers_asked terms before covers message (verdicts.Asks owner act) out host sid sub h =
    covers_owned terms before covers owner (record { act = act; source = Source.Message message }) out host sid sub h
covers_asked terms before covers message (verdicts.Seeks act) out host sid sub h = covers host sid sub h
covers_asked terms before covers message (verdicts.Refused octets) out host sid sub h = covers host sid sub h

covers_received : (setting : Setting) (before : Before) → Covers setting.plan.terms before → (moment : ℕ) (what : Received) (out : Out) (host sid : List ℕ) (sub : Sub)
    → was_opened_from setting.plan.terms (own_with (received_ask setting before moment what sub) out sub (before.own sub)) host sid ≡ true
    → is_among sub (received_owners setting before moment what ++ before.subs) ≡ true
covers_received setting before covers moment Received.Ignored out host sid sub h = covers host sid sub h
covers_received setting before covers moment Received.Broken out host sid sub h = covers host sid sub h
covers_received setting before covers moment (Received.Charging name message) out host sid sub h =
    covers_asked setting.plan.terms before covers message (verdict_in setting before moment name message) out host sid sub h
covers_received setting before covers moment (Received.Base peer message) out host sid sub h = covers host sid sub h

covers_top_up : (terms : TermsView) (before : Before) → Covers terms before → (may : Bool) (owner : Sub) (ask : Ask) (out : Out) (host sid : List ℕ) (sub : Sub)
    → was_opened_from terms (own_with (if may && same_sub owner sub then Some ask else None) out sub (before.own sub)) host sid ≡ true → is_among sub (owner ∷ before.subs) ≡ true
covers_top_up terms before covers true owner ask out host sid sub h = covers_owned terms before covers owner ask out host sid sub h
covers_top_up terms before covers false owner ask out host sid sub h = elim (cases_Bool (same_sub owner sub)) [
  | inl t ↦ rw t refl
  | inr f ↦ rw f (covers host sid sub h)
]

covers_swept : OneMoreOpens → (terms : TermsView) (before : Before) → Covers terms before → (moment : ℕ) (out : Out) (host sid : List ℕ) (sub : Sub)
    → was_opened_from terms (own_with (Some (record { act = expiry_act moment; source = Sweep })) out sub (before.own sub)) host sid ≡ true → is_among sub before.subs ≡ true
covers_swept law terms before covers moment out host sid sub h =
    let ask : Ask = record { act = expiry_act moment; source = Sweep } in
    elim (cases_Bool (is_refused_for ask out sub)) [
      | inl t ↦ (let stays : was_opened_from terms (before.own sub) host sid ≡ true = rw t at h in covers host sid sub stays)
      | inr f ↦ (let more : was_opened_from terms (before.own sub ++ expiry_act moment ∷ []) host sid ≡ true = rw f at h in
          covers host sid sub (sym (expiry_opens_nothing law terms (before.own sub) moment host sid) ∙ more))
    ]

covers_event : OneMoreOpens → (setting : Setting) (before : Before) → Covers setting.plan.terms before → (event : Event) (out : Out) (host sid : List ℕ) (sub : Sub)
    → was_opened_from setting.plan.terms (own_with (ask_for setting before event sub) out sub (before.own sub)) host sid ≡ true → is_among sub (owners_of setting before event ++ before.subs) ≡ true
covers_event law setting before covers (events.Connect peer name) out host sid sub h = covers host sid sub h
covers_event law setting before covers (events.Disconnect peer) out host sid sub h = covers host sid sub h
covers_event law setting before covers (events.Message peer moment octets) out host sid sub h =
    covers_received setting before covers moment (received_on (before.peers peer) octets) out host sid sub h
covers_event law setting before covers (events.TopUp moment owner ticket amount) out host sid sub h =
    covers_top_up setting.plan.terms before covers (is_amount amount) owner (record { act = top_up_act moment ticket amount; source = TopUp }) out host sid sub h
covers_event law setting before covers (events.Sweep moment) out host sid sub h = covers_swept law setting.plan.terms before covers moment out host sid sub h

pub covers : SameAreEqual → OneMoreOpens → (engine : EngineView) (past : List Turn) → Covers engine.setting.plan.terms (before_of engine past)
covers same law engine [] = λ host sid sub h. rows_cover same engine.setting.plan.terms host sid engine.shard.rows sub h
covers same law engine (turn ∷ past) = λ host sid sub h. covers_event law engine.setting (before_of engine past) (covers same law engine past) turn.event turn.out host sid sub h
