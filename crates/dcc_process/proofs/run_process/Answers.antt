use denote.Exit.{yes}
use denote.Param.Send
use Rattle.dcc_files.proofs.Sending.{records_send, records_sync}
use Rattle.dcc_process.proofs.run_process.Goals as goal

-- src/lib.rt:38:5
pub execute-requires-send-S-Records : goal.execute-requires-send-S-Records
execute-requires-send-S-Records g c κs lives = Send.param_send 7 _ (Send.arg_send _ yes _ records_send)

-- src/lib.rt:38:5
pub execute-requires-sync-S-Records : goal.execute-requires-sync-S-Records
execute-requires-sync-S-Records g c κs lives = Send.param_sync 7 _ (Send.arg_sync _ yes _ records_sync)
