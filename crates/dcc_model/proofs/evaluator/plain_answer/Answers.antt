use Rattle.std.proofs.Common.{◌≡◌, ◌+◌, ◌-◌, List, reverse, take, Some, sym, ap, ◌∙◌, arith, slice_get, option_map}
use Rattle.std.proofs.lemmas.Option.{slice_get-get_or}
use Rattle.std.proofs.lemmas.Result.{IfOk-weaker}
use Rattle.dcc_act.specs.declared.act.Act.{Act}
use Rattle.dcc_act.specs.declared.outcome.Outcome.{Outcome}
use Rattle.dcc_model.specs.declared.done.Done.{Done}
use Rattle.dcc_model.specs.Outcomes.{judged, after, outcome}
use Rattle.dcc_model.proofs.Histories.{outcome-suc}
use Rattle.dcc_model.proofs.evaluator.plain_answer.Goals as goal

pub returns : goal.returns
unfolding after
returns c =
    let acts = c.args.acts.now in
    let terms = c.args.terms.now in
    let there : slice_get acts (c.args.place - 1) ≡ Some c.index-acts-place.result =
    slice_get-get_or acts (c.args.place - 1) c.index-acts-place.result (omega arith) ∙ ap (λ (a : Act). Some a) (sym c.index-acts-place.is) in
    let whole : c.args.place ≡ c.args.place - 1 + 1 = omega arith in
    let stands = ap (outcome terms acts) whole ∙ outcome-suc terms acts (c.args.place - 1) ∙ ap (option_map (after terms (take (c.args.place - 1) acts))) there in
    IfOk-weaker c.judged.result _ _
    (λ outcome is.
    stands
    ∙ ap (λ (o : Outcome). Some o)
    (sym
    (is
    ∙ ap (λ (past : List Done). judged terms (reverse past) c.index-acts-place.result) c.deref.ensures.value
    ∙ ap (λ (past : List Done). judged terms past c.index-acts-place.result) c.in_ok-past.ensures)))
    c.judged.ensures
