use Rattle.std.proofs.Common.{refl}
use Rattle.dcc_model.specs.Outcomes.{acts}
use Rattle.dcc_running.proofs.audit.is_true.Goals as goal

pub is_true_of-told-requires-clause-own : goal.is_true_of-told-requires-clause-own
unfolding acts
is_true_of-told-requires-clause-own g c = rw c.new-acts.ensures refl
