use Rattle.std.proofs.Common.{ap, sym, ◌∙◌, ◌≡◌, ◌+◌, ◌<◌, arith, get_or, inl, inr, length, rules, subst, ◌++◌, ◌∷◌, []}
use Rattle.std.proofs.lemmas.Grind.{common_steps}
use Rattle.crossbeam_queue.specs.Passes.{view}
use Rattle.dcc_lane.specs.Rule.{of, IsIn}
use Rattle.dcc_lane.proofs.Ending.{in_push}
use Rattle.dcc_lane.proofs.Moves.{takes, counted_more}
use Rattle.dcc_lane.proofs.receiver.Receiver.pop.Goals as goal

pub pop_as-requires-clause-rule : goal.pop_as-requires-clause-rule
pop_as-requires-clause-rule g c = (takes _ _ (ap (λ v. v.receives) c.args.self.now.known), λ items views held at. tt)

pub invariant_of-self-2-clause-counted : goal.invariant_of-self-2-clause-counted
invariant_of-self-2-clause-counted g c k l =
    let h = c.args.self.now in
    let rule = c.in_ok-tagged.ensures.rule in
    let made = ap (λ v. v.made) h.known in
    let below : c.in_ok-tagged.tagged.from < h.taken.len = subst (λ n. c.in_ok-tagged.tagged.from < n) made rule.0 in
    let inside : c.in_ok-tagged.tagged.from < length h.taken.items = omega arith in
    let more : c.in-Some.count ≡ get_or h.taken.items c.in_ok-tagged.tagged.from 0 + 1 = grind (arith, common_steps) in
    counted_more h.taken.items h.taken.len (view h.pass).taken c.in_ok-tagged.tagged c.in-Some.count inside more h.counted below k l ∙ sym (ap (λ v. length (of k v.taken)) rule.1)

pub invariant_of-self-2-clause-numbered : goal.invariant_of-self-2-clause-numbered
invariant_of-self-2-clause-numbered g c t i =
    let h = c.args.self.now in
    let rule = c.in_ok-tagged.ensures.rule in
    let below : c.in_ok-tagged.tagged.from < h.taken.len = subst (λ n. c.in_ok-tagged.tagged.from < n) (ap (λ v. v.made) h.known) rule.0 in
    let stands : IsIn t ((view h.pass).taken ++ c.in_ok-tagged.tagged ∷ []) = subst (IsIn t) (ap (λ v. v.taken) rule.1) i in
    elim (in_push t (view h.pass).taken c.in_ok-tagged.tagged stands) [
      | inl before ↦ h.numbered t before
      | inr last ↦ subst (λ u. u.from < h.taken.len) last below
    ]

pub invariant_of-self : goal.invariant_of-self
invariant_of-self g c =
    let same = c.in_err-tagged.ensures.rule.0 in
    record {
      tied = search rules;
      known = search rules;
      counted = λ k l. c.args.self.now.counted k l ∙ sym (ap (λ v. length (of k v.taken)) same);
      numbered = λ t i. c.args.self.now.numbered t (subst (IsIn t) (ap (λ v. v.taken) same) i);
    }
