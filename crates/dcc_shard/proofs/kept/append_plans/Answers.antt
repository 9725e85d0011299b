use Rattle.std.proofs.Common.{◌≡◌, List, [], length, rules, sym, subst, ◌∙◌}
use Rattle.dcc_store.specs.Batches.{AdditionView, with_all}
use Rattle.dcc_store.specs.Stops.{LeavesOnly, LeavesEither}
use Rattle.dcc_shard.proofs.Committing.{no_more}
use Rattle.dcc_shard.proofs.kept.append_plans.Goals as goal

pub returns-then-is_empty-clause-stored : goal.returns-then-is_empty-clause-stored
returns-then-is_empty-clause-stored g c = λ held only.
    let short : length c.collect.new.additions.items ≡ 0 = search rules in
    let none : c.collect.new.additions.items ≡ [] = no_more c.collect.new.additions.items short in
    let P : List AdditionView → Type 0 = λ batch. LeavesOnly (g.R.Records.terms c.args.records.now) (with_all batch held) (g.R.Records.may_leave c.args.records.now) in
    subst P (sym none ∙ c.collect.ensures) only

pub returns-clause-crash : goal.returns-clause-crash
returns-clause-crash g c = λ held only.
    let P : List AdditionView → Type 0 = λ batch. LeavesEither (g.R.Records.terms c.args.records.now) held (with_all batch held) (g.R.Records.may_leave c.append_all.new.self) in
    subst P (c.deref.ensures.value ∙ c.collect.ensures) (c.append_all.ensures.crash held only)
