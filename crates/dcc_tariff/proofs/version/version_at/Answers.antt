use Rattle.std.proofs.Common.{rules, of_calls, sym, ◌∙◌}
use Rattle.std.proofs.lemmas.Fn.{always_returns_same}
use Rattle.dcc_tariff.proofs.VersionLemmas.{is_up_to, is_up_to_steady, partitioned, latest-is, found_none, found_of, found_other}
use Rattle.dcc_tariff.proofs.version.version_at.Goals as goal

pub returns-in_err-last : goal.returns-in_err-last
returns-in_err-last c =
    let point =
    c.partition_point-end.ensures.partitioned (is_up_to c.args.group c.args.moment)
    (always_returns_same _ _ _ (λ a r f k. search (rules, of_calls)))
    (partitioned (is_up_to c.args.group c.args.moment) (is_up_to_steady c.args.group c.args.moment) c.args.versions.now c.requires) in
    rw c.from_residual.ensures
    (found_none c.args.group c.last.result _ c.last.ensures.value c.in_err-last.was
    ∙ sym (latest-is c.args.group c.args.moment c.args.versions.now c.partition_point-end.result c.requires
    c.partition_point-end.ensures.bound point))

pub returns-then-last-group : goal.returns-then-last-group
returns-then-last-group c =
    let point =
    c.partition_point-end.ensures.partitioned (is_up_to c.args.group c.args.moment)
    (always_returns_same _ _ _ (λ a r f k. search (rules, of_calls)))
    (partitioned (is_up_to c.args.group c.args.moment) (is_up_to_steady c.args.group c.args.moment) c.args.versions.now c.requires) in
    found_of c.args.group c.last.result _ c.in_ok-last.last c.last.ensures.value c.in_ok-last.was c.if-last-group.true
    ∙ sym (latest-is c.args.group c.args.moment c.args.versions.now c.partition_point-end.result c.requires
    c.partition_point-end.ensures.bound point)

pub returns-else-last-group : goal.returns-else-last-group
returns-else-last-group c =
    let point =
    c.partition_point-end.ensures.partitioned (is_up_to c.args.group c.args.moment)
    (always_returns_same _ _ _ (λ a r f k. search (rules, of_calls)))
    (partitioned (is_up_to c.args.group c.args.moment) (is_up_to_steady c.args.group c.args.moment) c.args.versions.now c.requires) in
    found_other c.args.group c.last.result _ c.in_ok-last.last c.last.ensures.value c.in_ok-last.was c.if-last-group.false
    ∙ sym (latest-is c.args.group c.args.moment c.args.versions.now c.partition_point-end.result c.requires
    c.partition_point-end.ensures.bound point)
