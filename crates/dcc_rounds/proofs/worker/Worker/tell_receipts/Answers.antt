use Rattle.std.proofs.Common.{None, append-nil, ap, inr, refl, sym, arith}
use Rattle.dcc_connect.specs.Writing.{items_of}
use Rattle.dcc_lane.specs.Ends.{taken_of}
use Rattle.dcc_rounds.specs.declared.counter.CallCounter.{CallCounter}
use Rattle.dcc_rounds.proofs.Doings.{no_step, one_step}
use Rattle.dcc_rounds.proofs.worker.Worker.tell_receipts.Goals as goal

pub returns-then-asked-due-clause-goes : goal.returns-then-asked-due-clause-goes
returns-then-asked-due-clause-goes g c = no_step g.J.Naming.opening c.args.self.now c.args.self.now c.args.rest.now refl

pub returns-clause-goes : goal.returns-clause-goes
returns-clause-goes g c =
    let old = c.args.self.now in
    let told = c.audit-audited.ensures.told in
    let counted = c.audit-audited.ensures.counted in
    let left = ap (λ (k : CallCounter). k.left) counted in
    one_step g.J.Naming.opening old (record old { seat = c.audit-audited.new.seat; counter = c.audit-audited.new.self }) c.args.rest.now c.args.rest.now None 0
    (sym (append-nil (items_of (taken_of old.from)))) (inr (told.0, told.1, told.2, refl, (refl, refl), ap (λ (k : CallCounter). k.audits) counted))
    (ap (λ (k : CallCounter). k.lists) counted, ap (λ (k : CallCounter). k.shard) counted, ap (λ (k : CallCounter). k.asked) counted) (omega (arith, c.requires, left)) refl (refl, refl) refl refl
