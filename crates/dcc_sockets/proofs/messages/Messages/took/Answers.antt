use Rattle.std.proofs.Common.{◌≡◌, ◌≤◌, ◌<◌, ◌≢◌, ◌⊎◌, inl, inr, length, ◌+◌, ◌-◌, ◌∙◌, sym, ap, subst, arith}
use Rattle.dcc_sockets.specs.Messages.{Continue, stated}
use Rattle.dcc_sockets.specs.declared.messages.Messages.{Messages}
use Rattle.dcc_sockets.proofs.Outgoing.{begun, ended_on, none_more, taken_on, went_on}
use Rattle.dcc_sockets.proofs.messages.Messages.took.Goals as goal
use Rattle.dcc_sockets.proofs.messages.Messages.took.Goals.{then-self-eq0, else-self-eq0}

pub loop-more-preserved-then-self-eq0-2 : goal.loop-more-preserved-then-self-eq0-2
loop-more-preserved-then-self-eq0-2 c =
    let loop = c.loop-more in
    let start = c.if-self-eq0.self.left in
    let step = c.min-step.result in
    let some : 0 < loop.more = omega (arith, c.loop-more-test.true) in
    let from : ((loop.self.left ≡ 0) × (start ≡ stated loop.rest.now)) ⊎ ((loop.self.left ≢ 0) × (start ≡ loop.self.left)) = elim c.if-self-eq0.branch [
      | then-self-eq0 w ↦ inl (w.if-self-eq0.true, ap (λ (m : Messages). m.left) w.self-is ∙ w.length_of-self.ensures)
      | else-self-eq0 w ↦ inr (w.if-self-eq0.false, ap (λ (m : Messages). m.left) w.self-is)
    ] in
    let count = c.saturating_add-ended.ensures in
    let least = c.min-step.ensures in
    let counted = loop.invariant.counted in
    let fits = c.ranges.taken.fits in
    let one : c.saturating_add-ended.result ≡ loop.ended + 1 = omega (arith, count, counted, fits, some) in
    record {
      counted = (let steps = taken_on loop.self.left start loop.more step loop.rest.now from least some in omega (arith, one, counted, least, some, steps));
      on = λ messages continue few. (
          let was = loop.invariant.on messages continue few in
          let at = begun loop.self.left start loop.more loop.rest.now was.0 from some was.1 was.2 in
          let h = ended_on start loop.more step loop.rest.now at.0 least c.if-self-eq0-2.true at.1 at.2 was.2 in
          let behind = sym c.behind-rest.ensures in
          let e = h.2 in
          let f = at.3 in
          let g = was.3 in (
            at.0,
            subst (Continue (start - step) at.0) behind h.0,
            subst (λ l. loop.more - step ≤ length l) behind h.1,
            omega (arith, one, e, f, g),
            h.3 ∙ at.4 ∙ was.4,
          ));
    }

pub loop-more-preserved : goal.loop-more-preserved
loop-more-preserved c =
    let loop = c.loop-more in
    let start = c.if-self-eq0.self.left in
    let step = c.min-step.result in
    let some : 0 < loop.more = omega (arith, c.loop-more-test.true) in
    let from : ((loop.self.left ≡ 0) × (start ≡ stated loop.rest.now)) ⊎ ((loop.self.left ≢ 0) × (start ≡ loop.self.left)) = elim c.if-self-eq0.branch [
      | then-self-eq0 w ↦ inl (w.if-self-eq0.true, ap (λ (m : Messages). m.left) w.self-is ∙ w.length_of-self.ensures)
      | else-self-eq0 w ↦ inr (w.if-self-eq0.false, ap (λ (m : Messages). m.left) w.self-is)
    ] in
    let least = c.min-step.ensures in
    let counted = loop.invariant.counted in
    record {
      counted = omega (arith, counted);
      on = λ messages continue few. (
          let was = loop.invariant.on messages continue few in
          let at = begun loop.self.left start loop.more loop.rest.now was.0 from some was.1 was.2 in
          let h = went_on start loop.more step loop.rest.now at.0 least c.if-self-eq0-2.false at.2 was.2 in
          let behind = sym c.behind-rest.ensures in
          let e = h.2 in
          let f = at.3 in
          let g = was.3 in (
            at.0,
            subst (Continue (start - step) at.0) behind h.0,
            subst (λ l. loop.more - step ≤ length l) behind h.1,
            omega (arith, e, f, g),
            h.3 ∙ at.4 ∙ was.4,
          ));
    }

pub returns-clause-ended : goal.returns-clause-ended
returns-clause-ended c messages continue few =
    let was = c.loop-more.invariant.on messages continue few in
    let none : c.loop-more.more ≡ 0 = omega (arith, c.loop-more-test.false) in
    let end = none_more c.loop-more.self.left c.loop-more.more was.0 none was.1.3 in
    let first = end.0 in
    let same = was.3 in
    omega (arith, first, same)

pub returns-clause-left : goal.returns-clause-left
returns-clause-left c messages continue few =
    let was = c.loop-more.invariant.on messages continue few in
    let none : c.loop-more.more ≡ 0 = omega (arith, c.loop-more-test.false) in
    let end = none_more c.loop-more.self.left c.loop-more.more was.0 none was.1.3 in
    sym end.1 ∙ was.4
