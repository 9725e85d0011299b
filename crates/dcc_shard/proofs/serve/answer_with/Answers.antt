use Rattle.std.proofs.Common.{ℕ, Option, ap, ◌∙◌}
use Rattle.dcc_shard.specs.Answers.{answer_at}
use Rattle.dcc_shard.proofs.serve.answer_with.Goals as goal

pub returns-clause-value : goal.returns-clause-value
returns-clause-value c =
    c.answer_placed.ensures.value ∙ ap (λ (place : Option ℕ). answer_at c.args.octets place c.is_new.result) c.place.ensures
    ∙ ap (answer_at c.args.octets c.args.step.now.place) c.is_new.ensures

pub returns-clause-judged : goal.returns-clause-judged
returns-clause-judged c = c.answer_placed.ensures.judged

pub returns-clause-apart : goal.returns-clause-apart
returns-clause-apart c = c.answer_placed.ensures.apart
