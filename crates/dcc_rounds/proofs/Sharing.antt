-- That threads may share what a round's threads do: its shards (`dcc_running`), and each other part.
use denote.RattleType.{RattleType}
use denote.Param.Send
use denote.Param.Send.{IsSend, IsSync, sendable}
use denote.Struct.Declared
use Rattle.dcc_rounds.specs.contracts.tasks.Shared
use Rattle.dcc_running.proofs.Sharing.{shards_sync}
use Rattle.dcc_tariff.proofs.plan.Plan.TheSendSync as PlanSent
use Rattle.dcc_message.proofs.identity.Identity.TheSendSync as IdentitySent
use Rattle.std.proofs.alloc.Global.TheSendSync as GlobalSent

pub shared_sync : (R J L C N : RattleType) (records : _) (naming : _) → IsSend R → IsSync R → IsSend J → IsSync J → IsSync L → IsSync C → IsSync N → (ℓ : _)
    → IsSync (Shared.the_row ℓ R J L C N records naming)
shared_sync R J L C N records naming send-R sync-R send-J sync-J sync-L sync-C sync-N ℓ =
    let shards = shards_sync R J records naming send-R sync-R send-J sync-J in
    Send.recorded_sync (Shared.the_field ℓ R J L C N records naming).row _ _ (Shared.the_type ℓ R J L C N records naming).to_one
    (Send.struct_sync (Declared.shape (Shared.the_type ℓ R J L C N records naming)) (
      GlobalSent.the_field_sync,
      (
        search (sendable, PlanSent.the_sync) depth 4,
        (search (sendable, IdentitySent.the_sync) depth 4, (search sendable, (search sendable, (search sendable, (search (sendable, shards) depth 4, (search sendable, (search sendable, tt))))))),
      ),
    ))
