use Rattle.std.proofs.Common.{◌≡◌, ◌+◌, Bool, ℕ, List, [], ◌∷◌, ◌++◌, ◌∙◌, refl, sym, ap, subst, append-nil, append_assoc, arith}
use Rattle.std.proofs.lemmas.List.{length_push}
use Rattle.dcc_rounds.specs.Gathering.{HasCome, place_of, places_from}
use Rattle.dcc_rounds.specs.Rounds.{RoundsView}
use Rattle.dcc_rounds.specs.declared.tasks.Task.{Task}
use Rattle.dcc_rounds.proofs.Gathers.{all_more, places_next}
use Rattle.dcc_rounds.proofs.round.add_places.Goals as goal

pub loop-gate-init : goal.loop-gate-init
loop-gate-init g c = ([], refl, tt, λ later. refl)

pub loop-gate-preserved : goal.loop-gate-preserved
loop-gate-preserved g c =
    let was = c.loop-gate.invariant in
    let first = c.in-Ok.first in
    let rounds = c.args.rounds.now in
    let every : c.rounds.inside.every ≡ rounds.every = ap (λ (r : RoundsView). r.every) c.rounds.view_is in
    let stays : c.rounds.inside.stays ≡ rounds.stays = ap (λ (r : RoundsView). r.stays) c.rounds.view_is in (
      was.0 ++ first ∷ [],
      length_push was.0 first ∙ ap (λ n. n + 1) was.1,
      all_more (HasCome rounds.stays) was.0 first was.2 (subst (λ (s : Bool). HasCome s first) stays c.in-Ok.ensures),
      λ later. places_next c.loop-gate.tasks.items c.push_reserved.new.self.items _ rounds.stays rounds.every c.loop-gate.gate first later
          c.loop-gate.receivers.items c.first_of.new.list.items c.in-Some.from c.loop-gate.senders.items c.first_of-in-loop-gate.new.list.items c.in-Some-first_of.workers
          c.loop-gate.replies.items c.first_of-in-loop-gate-2.new.list.items c.in-Some-first_of-2.writer c.place_of.result
          c.in-Some.ensures c.in-Some-first_of.ensures c.in-Some-first_of-2.ensures
          (c.place_of.ensures
          ∙ ap (λ (s : Bool). place_of s c.rounds.inside.every c.loop-gate.gate first c.in-Some.from c.in-Some-first_of.workers c.in-Some-first_of-2.writer) stays
          ∙ ap (λ (e : ℕ). place_of rounds.stays e c.loop-gate.gate first c.in-Some.from c.in-Some-first_of.workers c.in-Some-first_of-2.writer) every)
          (c.push_reserved.ensures.items ∙ ap (λ (ts : List (Task g.row.I.Denot g.row.O.Denot)). ts ++ c.place_of.result ∷ []) c.reserve.ensures.items)
          (was.3 (first ∷ later)
          ∙ ap (λ firsts. c.args.tasks.now.items ++ places_from rounds.stays rounds.every 0 firsts c.args.receivers.now.items c.args.senders.now.items c.args.replies.now.items)
          (sym (append_assoc was.0 (first ∷ []) later))),
    )

pub returns-clause-places : goal.returns-clause-places
returns-clause-places g c =
    let was = c.loop-gate.invariant in
    let rounds = c.args.rounds.now in
    let same : c.rounds.inside.gates ≡ rounds.gates = ap (λ (r : RoundsView). r.gates) c.rounds.view_is in (
      was.0,
      omega (arith, was.1, same),
      was.2,
      sym (append-nil c.loop-gate.tasks.items) ∙ was.3 []
          ∙ ap (λ firsts. c.args.tasks.now.items ++ places_from rounds.stays rounds.every 0 firsts c.args.receivers.now.items c.args.senders.now.items c.args.replies.now.items) (append-nil was.0),
    )
