use Rattle.dcc_store.proofs.Reading.{no_log}
use Rattle.dcc_store.proofs.memory.MemoryRecords.new.Goals as goal

pub invariant_of-result : goal.invariant_of-result
invariant_of-result c = rw c.new.ensures.items (no_log c.args.terms.now c.leaving_out_changes_nothing.ensures.none c.funds_are_accounted_for.ensures.entries)

pub returns-clause-empty : goal.returns-clause-empty
returns-clause-empty c = λ sub.
    rw c.new.ensures.items ((no_log c.args.terms.now c.leaving_out_changes_nothing.ensures.none c.funds_are_accounted_for.ensures.entries).content sub)
