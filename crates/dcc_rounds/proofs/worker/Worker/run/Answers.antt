use Rattle.std.proofs.Common.{◌≡◌, ◌≤◌, ◌+◌, ◌∙◌, [], inl, refl, sym, ap, subst, length, if◌then◌else◌, arith}
use Rattle.std.proofs.lemmas.List.{drop_all}
use Rattle.std.specs.Global.{Vec}
use Rattle.dcc_rounds.specs.Working.{Goes, counting}
use Rattle.dcc_rounds.specs.declared.counter.CallCounter.{CallCounter}
use Rattle.dcc_rounds.specs.declared.work.Request.{Request}
use Rattle.dcc_rounds.specs.declared.worker.Worker.{Worker}
use Rattle.dcc_rounds.specs.inner.Auditing.{AsksOnce}
use Rattle.dcc_rounds.proofs.Auditing.{audited_on}
use Rattle.dcc_rounds.proofs.Doings.{goes_on, no_step, none_listed, same_end}
use Rattle.dcc_rounds.proofs.worker.Worker.run.Goals as goal
use Rattle.dcc_rounds.proofs.worker.Worker.run.Goals.{then-ended-senders+then-take_some, then-ended-senders+else-take_some, else-ended-senders+else-count-eq0}

pub loop-init : goal.loop-init
loop-init g c =
    let old = c.args.self.now in
    let counter = c.new-self.ensures in
    let rest = c.new-rest.ensures in
    let left = ap (λ (k : CallCounter). k.left) counter in
    let asked = ap (λ (k : CallCounter). k.asked) counter in
    let audits = ap (λ (k : CallCounter). k.audits) counter in
    let none = ap (λ subs. length subs) rest.0 in
    let first = rest.1 in
    record {
      done = (
        c.new-rest.result,
        none_listed c.new-rest.result rest.0,
        no_step g.J.Naming.opening (counting old) (record old { counter = c.new-self.result }) c.new-rest.result
            (ap (λ (k : CallCounter). record old { counter = k }) counter),
      );
      counted = omega (arith, left, none, first);
      audited = omega (arith, asked, audits);
      most = omega (arith, audits);
      due = c.asked.ensures;
      few = omega arith;
      shard = refl;
      empty = c.new-batch.ensures.items;
      all = c.senders-senders.ensures;
    }

pub returns-then-count-eq0 : goal.returns-then-count-eq0
returns-then-count-eq0 g c =
    let h = c.loop.invariant.done in
    let rest = c.loop.rest in
    let all : c.loop.ended ≡ c.senders-senders.result = omega (arith, c.loop.invariant.few, c.if-ended-senders.false) in
    record {
      first = h.0;
      last = rest;
      nothing_left = (h.1, drop_all rest.asked rest.subs.items (omega (arith, c.count.ensures, c.if-count-eq0.true)));
      goes = subst (λ k. Goes g.J.Naming.opening (counting c.args.self.now) c.loop.self h.0 rest k) (all ∙ c.loop.invariant.all) h.2;
      audited = c.loop.invariant.audited;
    }

pub loop-preserved : goal.loop-preserved
loop-preserved g c =
    let old = c.args.self.now in
    let i = c.loop.invariant in
    let h = i.done in
    let taken = c.if-ended-senders in
    let none : c.loop.ended ≡ c.loop.ended + 0 = omega arith in
    let on : Goes g.J.Naming.opening (counting old) taken.self h.0 taken.rest taken.ended = elim taken.branch [
      | then-ended-senders+then-take_some w ↦
          same_end g.J.Naming.opening (counting old) w.take_some.new.self taken.self h.0 w.take_some.new.rest taken.rest (c.loop.ended + (if w.take_some.result then 1 else 0)) taken.ended w.self-is w.rest-is
          (w.ended-is ∙ ap (λ ended. c.loop.ended + (if ended then 1 else 0)) (sym w.if-take_some.true))
          (goes_on g.J.Naming.opening (counting old) c.loop.self w.take_some.new.self h.0 c.loop.rest w.take_some.new.rest c.loop.ended (if w.take_some.result then 1 else 0) h.2 w.take_some.ensures.goes)
      | then-ended-senders+else-take_some w ↦
          same_end g.J.Naming.opening (counting old) w.take_some.new.self taken.self h.0 w.take_some.new.rest taken.rest (c.loop.ended + (if w.take_some.result then 1 else 0)) taken.ended w.self-is w.rest-is
          (w.ended-is ∙ none ∙ ap (λ ended. c.loop.ended + (if ended then 1 else 0)) (sym w.if-take_some.false))
          (goes_on g.J.Naming.opening (counting old) c.loop.self w.take_some.new.self h.0 c.loop.rest w.take_some.new.rest c.loop.ended (if w.take_some.result then 1 else 0) h.2 w.take_some.ensures.goes)
      | else-ended-senders+else-count-eq0 w ↦ same_end g.J.Naming.opening (counting old) c.loop.self taken.self h.0 c.loop.rest taken.rest c.loop.ended taken.ended w.self-is w.rest-is w.ended-is h.2
    ] in
    let few : taken.ended ≤ c.senders-senders.result = elim taken.branch [
      | then-ended-senders+then-take_some w ↦ omega (arith, w.if-ended-senders.true, w.ended-is)
      | then-ended-senders+else-take_some w ↦ omega (arith, i.few, w.ended-is)
      | else-ended-senders+else-count-eq0 w ↦ omega (arith, i.few, w.ended-is)
    ] in
    let empty : taken.batch.items ≡ [] = elim taken.branch [
      | then-ended-senders+then-take_some w ↦ ap (λ (batch : Vec Request). batch.items) w.batch-is ∙ w.take_some.ensures.empty
      | then-ended-senders+else-take_some w ↦ ap (λ (batch : Vec Request). batch.items) w.batch-is ∙ w.take_some.ensures.empty
      | else-ended-senders+else-count-eq0 w ↦ ap (λ (batch : Vec Request). batch.items) w.batch-is ∙ i.empty
    ] in
    let once : AsksOnce c.loop.self.counter taken.self.counter = elim taken.branch [
      | then-ended-senders+then-take_some w ↦
          subst (λ (v : Worker). AsksOnce c.loop.self.counter v.counter) (sym w.self-is) w.take_some.ensures.asked
      | then-ended-senders+else-take_some w ↦
          subst (λ (v : Worker). AsksOnce c.loop.self.counter v.counter) (sym w.self-is) w.take_some.ensures.asked
      | else-ended-senders+else-count-eq0 w ↦ subst (λ (v : Worker). AsksOnce c.loop.self.counter v.counter) (sym w.self-is) (inl refl, refl)
    ] in
    let told = c.tell_receipts-counted.ensures in
    let kept = audited_on c.loop.self.counter taken.self.counter c.ask_piece.new.self.counter c.tell_receipts-counted.new.self.counter c.loop.due
    (length c.ask_piece.new.self.seat) once c.ask_piece.ensures.calls told.audited i.due i.audited i.most in
    let same : taken.ended ≡ taken.ended + 0 = omega arith in
    let asked : Goes g.J.Naming.opening (counting old) c.ask_piece.new.self h.0 c.ask_piece.new.rest taken.ended =
    subst (λ k. Goes g.J.Naming.opening (counting old) c.ask_piece.new.self h.0 c.ask_piece.new.rest k) (sym same)
    (goes_on g.J.Naming.opening (counting old) taken.self c.ask_piece.new.self h.0 taken.rest c.ask_piece.new.rest taken.ended 0 on c.ask_piece.ensures.goes) in
    record {
      done = (
        h.0,
        h.1,
        subst (λ k. Goes g.J.Naming.opening (counting old) c.tell_receipts-counted.new.self h.0 c.ask_piece.new.rest k) (sym same)
            (goes_on g.J.Naming.opening (counting old) c.ask_piece.new.self c.tell_receipts-counted.new.self h.0 c.ask_piece.new.rest c.ask_piece.new.rest taken.ended 0 asked
            c.tell_receipts-counted.ensures.goes),
      );
      counted = c.tell_receipts-counted.ensures.counted;
      audited = kept.0;
      most = kept.1;
      due = told.due;
      few = few;
      shard = c.tell_receipts-counted.ensures.goes.shard ∙ c.ask_piece.ensures.goes.shard ∙ on.shard;
      empty = empty;
      all = i.all;
    }
