use Rattle.std.proofs.Common.{◌≡◌, List, ◌++◌, refl, ap, ◌∙◌, inl, inr}
use Rattle.std.proofs.lemmas.Result.{err_from_is_err_and}
use Rattle.dcc_store.specs.Batches.{AdditionView}
use Rattle.dcc_store.specs.Memory.{MemoryView, content_of}
use Rattle.dcc_store.proofs.Adding.{appended}
use Rattle.dcc_store.proofs.Stopping.{stored, unchanged}
use Rattle.dcc_store.proofs.memory.MemoryRecordsRecords.append_all.Goals as goal

pub returns-in_err-parts-clause-crash : goal.returns-in_err-parts-clause-crash
returns-in_err-parts-clause-crash c = λ held only found left. inl (only found left)

pub returns-in_err-append-clause-refused : goal.returns-in_err-append-clause-refused
returns-in_err-append-clause-refused c = λ held only.
    let p = err_from_is_err_and c.from_residual-in_err-append.result c.from_residual-in_err-append.ensures.1 in
    let same : c.append.new.self.items ≡ c.args.self.now.log = c.in_err-append.ensures.items ∙ ap (λ (v : MemoryView). v.log) c.self.view_is in
    rw p.1 (λ going found left. only found (unchanged c.args.self.now (record { terms = c.self.inside.terms; log = c.append.new.self.items }) same found left))

pub returns-in_err-append-clause-crash : goal.returns-in_err-append-clause-crash
returns-in_err-append-clause-crash c = λ held only found left.
    let same : c.append.new.self.items ≡ c.args.self.now.log = c.in_err-append.ensures.items ∙ ap (λ (v : MemoryView). v.log) c.self.view_is in
    inl (only found (unchanged c.args.self.now (record { terms = c.self.inside.terms; log = c.append.new.self.items }) same found left))

pub invariant_of-self-2 : goal.invariant_of-self-2
invariant_of-self-2 c =
    appended c.args.self.now c.self.inside.terms c.self.inside.log.items c.in_ok-parts.parts.items c.args.batch.now c.append.new.self.items c.self.view_is c.in_ok-parts.ensures
    c.in_ok-append.ensures.items c.same_subscribers_are_equal.ensures c.new_acts_come_next.ensures.account c.batches_come_next.ensures.book c.requires.apart
    (c.requires.next refl (content_of c.args.self.now) (λ sub. refl)) c.self.invariant

pub returns-clause-stored : goal.returns-clause-stored
returns-clause-stored c = λ held only.
    let grown : c.append.new.self.items ≡ c.args.self.now.log ++ c.args.batch.now =
    c.in_ok-append.ensures.items ∙ ap (λ (log : List AdditionView). log ++ c.in_ok-parts.parts.items) (ap (λ (v : MemoryView). v.log) c.self.view_is)
    ∙ ap (λ (parts : List AdditionView). c.args.self.now.log ++ parts) c.in_ok-parts.ensures in
    stored c.args.self.now (record { terms = c.self.inside.terms; log = c.append.new.self.items }) c.args.batch.now held grown c.same_subscribers_are_equal.ensures
    c.new_acts_come_next.ensures.account c.requires.apart (c.requires.next refl (content_of c.args.self.now) (λ sub. refl)) only

pub returns-clause-crash : goal.returns-clause-crash
returns-clause-crash c = λ held only found left.
    let grown : c.append.new.self.items ≡ c.args.self.now.log ++ c.args.batch.now =
    c.in_ok-append.ensures.items ∙ ap (λ (log : List AdditionView). log ++ c.in_ok-parts.parts.items) (ap (λ (v : MemoryView). v.log) c.self.view_is)
    ∙ ap (λ (parts : List AdditionView). c.args.self.now.log ++ parts) c.in_ok-parts.ensures in
    inr (stored c.args.self.now (record { terms = c.self.inside.terms; log = c.append.new.self.items }) c.args.batch.now held grown c.same_subscribers_are_equal.ensures
    c.new_acts_come_next.ensures.account c.requires.apart (c.requires.next refl (content_of c.args.self.now) (λ sub. refl)) only found left)
