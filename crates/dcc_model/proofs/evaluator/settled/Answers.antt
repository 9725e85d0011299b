use Rattle.std.proofs.Common.{◌≡◌, Option, Some, None, Result, IfOk, reverse, ap, ◌∙◌}
use Rattle.std.specs.Option.{option_map_or}
use Rattle.std.proofs.lemmas.Result.{IfOk-weaker}
use Rattle.dcc_model.specs.declared.done.Done.{Done}
use Rattle.dcc_model.specs.Outcomes.{decided, first_of}
use Rattle.dcc_model.proofs.evaluator.settled.Goals as goal

-- what was found, and what the act comes to otherwise, are variables here, so that neither unfolds
found : {D O E : Type 0} (out : D → O) (first : Option D) (otherwise : O) (done : D) (r : Result O E) → Some done ≡ first → IfOk r (λ o. o ≡ out done) → IfOk r (λ o. o ≡ option_map_or out first otherwise)
found {D = D} out first otherwise done r is given =
    IfOk-weaker r _ _ (λ o same. same ∙ ap (λ (x : Option D). option_map_or out x otherwise) is) given

unmet : {D O E : Type 0} (out : D → O) (first : Option D) (otherwise : O) (r : Result O E) → None ≡ first → IfOk r (λ o. o ≡ otherwise) → IfOk r (λ o. o ≡ option_map_or out first otherwise)
unmet {D = D} out first otherwise r is given =
    IfOk-weaker r _ _ (λ o same. same ∙ ap (λ (x : Option D). option_map_or out x otherwise) is) given

pub returns-in-Some : goal.returns-in-Some
returns-in-Some c =
    found (λ (done : Done). done.outcome) (first_of (reverse c.args.past.now) c.args.act.now.kind) (decided c.args.terms.now (reverse c.args.past.now) c.args.act.now.moment c.args.act.now.kind) c.in-Some.done.now c.copy.result c.in-Some.ensures c.copy.ensures

pub returns-in-None : goal.returns-in-None
returns-in-None c =
    unmet (λ (done : Done). done.outcome) (first_of (reverse c.args.past.now) c.args.act.now.kind) (decided c.args.terms.now (reverse c.args.past.now) c.args.act.now.moment c.args.act.now.kind) c.decide.result c.in-None.ensures c.decide.ensures
