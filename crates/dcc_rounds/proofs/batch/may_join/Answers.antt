use Rattle.std.proofs.Common.{◌<◌, ◌∙◌, length, sym, arith}
use Rattle.std.proofs.lemmas.Bool.{ltb-true}
use Rattle.dcc_rounds.proofs.Batching.{may_join_with}
use Rattle.dcc_rounds.proofs.batch.may_join.Goals as goal

pub returns-then-index_of : goal.returns-then-index_of
returns-then-index_of g c =
    let batch = c.args.batch.now in
    let some : 0 < length batch = ltb-true 0 (length batch) (sym c.in-Some.ensures.item.0) in
    may_join_with c.args.shards.now.count batch c.in-Some.first.now c.args.sub.now c.is_among.result some c.in-Some.ensures.item.1
    (sym c.index_of.ensures.value ∙ c.if-index_of.true ∙ c.index_of-in-Some.ensures.value) c.is_among.ensures
