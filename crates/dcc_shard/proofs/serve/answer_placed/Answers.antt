use Rattle.std.proofs.Common.{ℕ, Option, refl, sym, ap}
use Rattle.dcc_shard.specs.Answers.{answer_at}
use Rattle.dcc_shard.proofs.serve.answer_placed.Goals as goal

pub returns-in-Some-clause-value : goal.returns-in-Some-clause-value
returns-in-Some-clause-value c = sym (ap (λ (p : Option ℕ). answer_at c.args.octets p c.args.fresh) c.in-Some.is)

pub returns-in-Some-clause-judged : goal.returns-in-Some-clause-judged
returns-in-Some-clause-judged c = refl

pub returns-in-Some-clause-apart : goal.returns-in-Some-clause-apart
returns-in-Some-clause-apart c = λ apart whole. (apart, whole)

pub returns-in-None-clause-value : goal.returns-in-None-clause-value
returns-in-None-clause-value c = sym (ap (λ (p : Option ℕ). answer_at c.args.octets p c.args.fresh) c.in-None.is)

pub returns-in-None-clause-judged : goal.returns-in-None-clause-judged
returns-in-None-clause-judged c = refl

pub returns-in-None-clause-apart : goal.returns-in-None-clause-apart
returns-in-None-clause-apart c = λ apart whole. (apart, whole)
