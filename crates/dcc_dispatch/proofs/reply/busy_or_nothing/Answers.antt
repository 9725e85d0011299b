use Rattle.std.proofs.Common.{ap, ◌∙◌}
use Rattle.dcc_dispatch.specs.Refusals.{is_refusal}
use Rattle.dcc_dispatch.proofs.Refusals.{refusal_of, nothing_is_one}
use Rattle.dcc_dispatch.proofs.reply.busy_or_nothing.Goals as goal

pub returns-in-Ok-clause-refused : goal.returns-in-Ok-clause-refused
returns-in-Ok-clause-refused c = ap is_refusal c.from_vec.ensures ∙ refusal_of c.in-Ok.octets.items c.in-Ok.ensures.some ∙ c.in-Ok.ensures.busy

pub returns-in-Err-clause-refused : goal.returns-in-Err-clause-refused
returns-in-Err-clause-refused c = ap is_refusal c.new.ensures ∙ nothing_is_one
