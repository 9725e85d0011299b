use Rattle.std.proofs.Common.{◌≡◌, ◌∙◌, ℕ, refl, ap, subst}
use Rattle.dcc_shard.specs.Answers.{is_judged_top_up}
use Rattle.dcc_shard.specs.Routes.{shard_of}
use Rattle.dcc_operator.proofs.Opened.{moved}
use Rattle.dcc_operator.proofs.commands.top_up_in.Goals as goal

pub returns-in-Ok-written-clause-opened : goal.returns-in-Ok-written-clause-opened
returns-in-Ok-written-clause-opened g c =
    let at : c.shard_of-index.result ≡ shard_of c.args.ask.sub c.args.plan.now.shards =
    c.shard_of-index.ensures.value ∙ ap (shard_of c.args.ask.sub) (c.from-count.ensures ∙ c.shards.ensures.value) in
    let Gives : ℕ → Type 0 = λ n. g.S.Stores.opens c.args.stores.now c.args.folder.now c.args.plan.now n c.in-Ok.records in (
      c.in-Ok-shard_or_back.shard,
      is_judged_top_up c.top_up_run-answer.result.0,
      record {
        given = c.in-Ok.records;
        opened = subst Gives at c.in-Ok.ensures.given;
        same = c.in-Ok-shard_or_back.ensures.same;
        left = c.in-Ok-shard_or_back.ensures.found;
      },
      c.top_up_run-answer.ensures.step,
    )

pub returns-in-Err-shard_or_back-clause-refused : goal.returns-in-Err-shard_or_back-clause-refused
returns-in-Err-shard_or_back-clause-refused g c other =
    let counted : c.from-count.result ≡ c.args.plan.now.shards = c.from-count.ensures ∙ c.shards.ensures.value in
    let at : c.shard_of-index.result ≡ shard_of c.args.ask.sub c.args.plan.now.shards = c.shard_of-index.ensures.value ∙ ap (shard_of c.args.ask.sub) counted in
    let Gives : ℕ → Type 0 = λ n. g.S.Stores.opens c.args.stores.now c.args.folder.now c.args.plan.now n c.in-Ok.records in
    let back = c.in-Err-shard_or_back in (
      back.refusal.0,
      c.from-in-Err-shard_or_back.ensures,
      c.in-Ok.records,
      subst Gives at c.in-Ok.ensures.given,
      moved g.S.Records.Records.may_leave g.S.Records.Records.is_stopped c.in-Ok.records at counted refl back.ensures.refused,
      back.ensures.left,
    )
