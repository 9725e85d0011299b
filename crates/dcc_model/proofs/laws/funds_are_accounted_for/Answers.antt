use Rattle.dcc_model.proofs.Funds.{funds_are_limited, entries_add_up}
use Rattle.dcc_model.proofs.Rooms.{grants_are_covered}
use Rattle.dcc_model.proofs.EscrowLaw.{free_is_covered}
use Rattle.dcc_model.proofs.laws.funds_are_accounted_for.Goals as goal

pub returns : goal.returns
returns c =
    record {
      limited = funds_are_limited;
      covered = free_is_covered;
      granted = grants_are_covered;
      entries = entries_add_up;
    }
