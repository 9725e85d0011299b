use Rattle.std.proofs.Common.{◌∙◌, sym}
use Rattle.dcc_rounds.proofs.Batching.{as_many_answers}
use Rattle.dcc_rounds.proofs.batch.answer_all.Goals as goal

pub leave_answers-requires : goal.leave_answers-requires
leave_answers-requires g c = c.requires.gates ∙ sym (as_many_answers c.args.jobs.items c.submit_all.new.answers.items c.submit_all.ensures.answers)
