use Rattle.std.proofs.Common.{rules, ◌≡◌, ◌⊎◌, inr, ℕ, ◌∙◌, Some, IfErr, ap, subst}
use Rattle.dcc_shard.specs.Routes.{shard_of}
use Rattle.dcc_operator.specs.declared.fault.OperatorFault.TheVariants.{Memory, Output, Store}
use Rattle.dcc_operator.proofs.Begun.{weaker}
use Rattle.dcc_operator.proofs.Opened.{of_found, opened_for, moved, no_store, same_number}
use Rattle.dcc_operator.proofs.commands.page_in.Goals as goal

pub returns-in-Err-clause-part : goal.returns-in-Err-clause-part
returns-in-Err-clause-part g c output =
    let shard = c.in_ok-shard.shard.shard in (
      Some shard,
      opened_for c.args.plan.now c.args.identity.now c.args.sub shard c.from-count.result c.shard_of-index.result
          (c.in_ok-shard.ensures.terms ∙ of_found _ _ _ c.in-Some.is c.in_ok-records.ensures.terms) c.in_ok-shard.ensures.identity c.in_ok-shard.ensures.own
          (c.from-count.ensures ∙ c.shards.ensures.value) c.shard_of-index.ensures.value c.in_ok-shard.ensures.placed,
      c.in-Err.ensures.part output,
    )

pub returns-in-Ok-clause-done : goal.returns-in-Ok-clause-done
returns-in-Ok-clause-done g c = (
  opened_for c.args.plan.now c.args.identity.now c.args.sub c.in_ok-shard.shard.shard c.from-count.result c.shard_of-index.result
      (c.in_ok-shard.ensures.terms ∙ of_found _ _ _ c.in-Some.is c.in_ok-records.ensures.terms) c.in_ok-shard.ensures.identity c.in_ok-shard.ensures.own
      (c.from-count.ensures ∙ c.shards.ensures.value) c.shard_of-index.ensures.value c.in_ok-shard.ensures.placed,
  c.in-Ok.ensures.whole,
)

pub returns-in_err-unknown_run-clause-refused : goal.returns-in_err-unknown_run-clause-refused
returns-in_err-unknown_run-clause-refused g c =
    let said : IfErr c.from_residual-in_err-unknown_run.result (λ fault. (fault ≡ Memory) ⊎ (fault ≡ Output)) = search rules in
    weaker c.from_residual-in_err-unknown_run.result (λ fault either number is. absurd (no_store fault number either is)) said

pub returns-in-Err-clause-refused : goal.returns-in-Err-clause-refused
returns-in-Err-clause-refused g c number is = absurd (no_store c.in-Err.fault number c.in-Err.ensures.faults is)

pub returns-in_err-shard-clause-refused : goal.returns-in_err-shard-clause-refused
returns-in_err-shard-clause-refused g c =
    let counted : c.from-count.result ≡ c.args.plan.now.shards = c.from-count.ensures ∙ c.shards.ensures.value in
    let at : c.shard_of-index.result ≡ shard_of c.args.sub c.args.plan.now.shards = c.shard_of-index.ensures.value ∙ ap (shard_of c.args.sub) counted in
    let records = c.in-Some.records in
    let given : g.S.Stores.opens c.args.stores.now c.args.folder.now c.args.plan.now (shard_of c.args.sub c.args.plan.now.shards) records =
    subst (λ (n : ℕ). g.S.Stores.opens c.args.stores.now c.args.folder.now c.args.plan.now n records) at (of_found _ _ _ c.in-Some.is c.in_ok-records.ensures.given) in
    let said : IfErr c.from_residual-in_err-shard.result (λ fault. fault ≡ Store c.in_err-shard.field-0.0.0) = search rules in
    weaker c.from_residual-in_err-shard.result (λ fault told number is. inr (records, given, moved g.S.Records.Records.may_leave g.S.Records.Records.is_stopped records at counted (same_number fault _ number told is) c.in_err-shard.ensures.refused)) said
