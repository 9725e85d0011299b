use Rattle.std.proofs.Common.{◌≡◌, ℕ, ◌-◌, ◌^◌, List, Option, rules, refl, sym, ap, ◌∙◌, subst, Bor}
use Rattle.dcc_connect.specs.Clocks.{timed}
use Rattle.dcc_connect.specs.Reading.{ReadsAndHands}
use Rattle.dcc_connect.specs.declared.fault.ConnectionEnd.{ConnectionEnd}
use Rattle.dcc_connect.specs.declared.handing.Handed.{Handed}
use Rattle.dcc_dispatch.specs.Settings.{Setting}
use Rattle.dcc_running.specs.Books.{LockedView}
use Rattle.dcc_rounds.specs.Handing.{Hands, HandsUnder, IsSameReader}
use Rattle.dcc_rounds.specs.declared.reader.Judge.{Judge}
use Rattle.dcc_rounds.specs.declared.reader.Reader.{Reader}
use Rattle.dcc_rounds.proofs.Handings.{same_as, same_on}
use Rattle.dcc_rounds.proofs.Mapped.{read_on}
use Rattle.dcc_rounds.proofs.reader.read_gate.Goals as goal

abbrev IsOf : {R J N : Type 0} → Judge R J N → Judge R J N → Type 0
IsOf first judge =
    (judge.plan ≡ first.plan) × (judge.identity ≡ first.identity) × (judge.shards ≡ first.shards) × (judge.reader.ghost_name ≡ first.reader.ghost_name)
    × IsSameReader first.reader.now judge.reader.now

abbrev setting_of : {R J N : Type 0} → Judge R J N → Setting
setting_of judge = record { plan = judge.plan.now; identity = judge.identity.now }

abbrev Judges : {R J N : Type 0} → Judge R J N → ℕ → List ℕ → Handed → Judge R J N → Type 0
Judges old moment message handed new =
    Hands (setting_of old) old.shards.now.count moment message handed old.reader.now new.reader.now × (new.plan ≡ old.plan) × (new.identity ≡ old.identity) × (new.shards ≡ old.shards)
    × (new.reader.ghost_name ≡ old.reader.ghost_name)

abbrev seen : {R J N C : Type 0} → Judge R J N × C → Reader × C
seen s = (s.0.reader.now, s.1)

-- a judge keeps by what it judges, and whose reader it has
judges_one : {R J N C : Type 0} (tells : C → ℕ → C → Type 0) (first : Judge R J N) (old : Judge R J N × C) (moment : ℕ) (message : List ℕ) (handed : Handed) (new : Judge R J N × C)
    → IsOf first old.0 → timed tells Judges old moment message handed new
    → timed tells (HandsUnder (setting_of first) first.shards.now.count) (seen old) moment message handed (seen new) × IsOf first new.0
judges_one tells first old moment message handed new is h =
    let same : setting_of old.0 ≡ setting_of first = λ i. record { plan = (is.0 i).now; identity = (is.1 i).now } in
    let under : Hands (setting_of first) old.0.shards.now.count moment message handed old.0.reader.now new.0.reader.now =
    subst (λ (setting : Setting). Hands setting old.0.shards.now.count moment message handed old.0.reader.now new.0.reader.now) same h.1.0 in
    let many : old.0.shards.now.count ≡ first.shards.now.count = ap (λ (s : Bor LockedView). s.now.count) is.2 in
    let hands : Hands (setting_of first) first.shards.now.count moment message handed old.0.reader.now new.0.reader.now =
    subst (λ (n : ℕ). Hands (setting_of first) n moment message handed old.0.reader.now new.0.reader.now) many under in
    ((h.0, hands), (h.1.1 ∙ is.0, h.1.2 ∙ is.1, h.1.3 ∙ is.2, h.1.4 ∙ is.3, same_on _ _ _ is.4 hands.7))

judges_all : {R J N C : Type 0} (tells : C → ℕ → C → Type 0) (first last : Judge R J N) (clock later : C) (end : ConnectionEnd) (turns : ℕ) (before after : Option (List ℕ))
    → ReadsAndHands (timed tells Judges) end turns before after (first, clock) (last, later)
    → ReadsAndHands (timed tells (HandsUnder (setting_of first) first.shards.now.count)) end turns before after (first.reader.now, clock) (last.reader.now, later) × IsOf first last
judges_all {R = R} {J = J} {N = N} {C = C} tells first last clock later end turns before after h =
    read_on (seen {R = R} {J = J} {N = N} {C = C}) (λ (s : Judge R J N × C). IsOf first s.0) (timed tells Judges) (timed tells (HandsUnder (setting_of first) first.shards.now.count)) (judges_one tells first) end turns
    before after (first, clock) (last, later) (refl, refl, refl, refl, same_as first.reader.now) h

pub returns : goal.returns
returns g c =
    let last = c.read_side-end.new.to.reader.now in
    let all = judges_all g.C.Clock.tells _ c.read_side-end.new.to c.args.clock.now c.read_side-end.new.clock c.read_side-end.result (2 ^ 32 - 1)
    (g.I.Read.remaining c.args.input.now) (g.I.Read.remaining c.read_side-end.new.input) c.read_side-end.ensures.handed in
    let name = sym all.1.3 in
    let gate = all.1.4.gate in (
      last,
      c.read_side-end.new.clock,
      all.0,
      c.read_side-end.ensures.end,
      search (rules, name, gate),
      (
          let same = same_on _ _ _ all.1.4 c.end.ensures.same in
          let same_gate = same.gate in
          let same_workers = same.workers in
          let same_writer = same.writer in
          record { gate = search (rules, name, same_gate); workers = search (rules, name, same_workers); writer = search (rules, name, same_writer) }
          ),
    )
