use Rattle.std.proofs.Common.{◌≡◌, ◌∙◌, true, List, [], ◌∷◌, ◌++◌, map, sym, ap, subst}
use Rattle.std.proofs.lemmas.List.{map_push}
use Rattle.dcc_act.specs.declared.sub.Sub.{Sub}
use Rattle.dcc_running.specs.Batches.{are_of_one_shard}
use Rattle.dcc_shard.specs.Shards.{are_apart}
use Rattle.dcc_rounds.specs.inner.Batches.{may_join, sub_of_request}
use Rattle.dcc_rounds.specs.declared.work.Request.{Request}
use Rattle.dcc_rounds.proofs.Batching.{joined}
use Rattle.dcc_rounds.proofs.batch.add.Goals as goal

pub returns-clause-batch : goal.returns-clause-batch
returns-clause-batch g c =
    let count = c.args.shards.now.count in
    let batch = c.args.batch.now.items in
    let subs = map sub_of_request batch in
    let request = c.in-Request.request in
    let sub = request.job.sub in
    let may : may_join count subs sub ≡ true =
    ap (λ (requests : List Request). may_join count (map sub_of_request requests) sub) (sym c.as_slice.ensures.value) ∙ sym c.may_join.ensures ∙ c.if-not-may_join.false in
    let is : map sub_of_request c.push_reserved.new.self.items ≡ subs ++ sub ∷ [] =
    ap (λ (requests : List Request). map sub_of_request requests) c.push_reserved.ensures.items ∙ map_push sub_of_request batch request in
    subst (λ (all : List Sub). (are_apart all ≡ true) × (are_of_one_shard count all ≡ true)) (sym is)
    (joined c.same_subscribers_are_equal.ensures count subs sub c.requires.batch may)
