-- That records in a file may be sent to another thread, and shared. What their database keeps of its file besides a system's file is a
-- list that only clauses read: with it, each type has what the types of its fields have.
use denote.Param.Send
use denote.RattleType.{RattleType}
use denote.Struct.Declared
use Rattle.sqlite_std_file.specs.contracts.record.Record
use Rattle.sqlite_std_file.specs.contracts.host.Host
use Rattle.sqlite_std_file.specs.contracts.host.HostCalls.TheImpl as calls
use Rattle.sqlite_disk.specs.contracts.modelled.Modelled
use Rattle.sqlite_disk.specs.contracts.modelled.ModelledDisk.TheImpl as disk
use Rattle.sqlite_disk.specs.contracts.start.Unknown
use Rattle.sqlite_disk.specs.contracts.start.UnknownStart.TheImpl as start
use Rattle.sqlite_disk.specs.declared.Disk.{Ghosts}
use Rattle.sqlite_store.specs.contracts.store.FileStore
use Rattle.sqlite_store.specs.contracts.store.FileStoreStore.TheImpl as store
use Rattle.std.proofs.fs.File.TheSendSync as FileSent
use Rattle.sqlite_disk.proofs.modelled.Modelled.TheSendSync as ModelledSent
use Rattle.sqlite_store.proofs.store.FileStore.TheSendSync as StoreSent
use Rattle.dcc_sqlite_store.proofs.sql_records.SqlRecords.TheSendSync as RecordsSent
use Rattle.dcc_files.specs.contracts.file_records.FileRecords

record_send : Send.IsSend Record.the_field.row
record_send = record { owned = λ d vs. ((λ _. (tt, ((λ _. (tt, tt)), tt))), tt); leaving = λ k d w. tt }

record_sync : Send.IsSync Record.the_field.row
record_sync = record { shared = λ d b o κ q. Send.whole-keyless _ _ (λ z vs. ((λ _. (tt, ((λ _. (tt, tt)), tt))), tt)) q d b o }

host_send : Send.IsSend Host.the_row
host_send = Send.recorded_send Host.the_field.row _ _ Host.the_type.to_one (Send.struct_send (Declared.shape Host.the_type) (FileSent.the_field_send, (record_send, tt)))

host_sync : Send.IsSync Host.the_row
host_sync = Send.recorded_sync Host.the_field.row _ _ Host.the_type.to_one (Send.struct_sync (Declared.shape Host.the_type) (FileSent.the_field_sync, (record_sync, tt)))

abbrev file_row : RattleType
file_row = Modelled.the_row Host.the_row Unknown.the_row calls.ghosts start.ghosts

file_send : Send.IsSend file_row
file_send = ModelledSent.the_send Host.the_row Unknown.the_row calls.ghosts start.ghosts host_send

file_sync : Send.IsSync file_row
file_sync = ModelledSent.the_sync Host.the_row Unknown.the_row calls.ghosts start.ghosts host_sync

abbrev file_ghosts : Ghosts file_row.Denot
file_ghosts = disk.ghosts Host.the_row Unknown.the_row calls.ghosts disk.no_dict start.ghosts disk.no_dict disk.no_dict

store_send : Send.IsSend (FileStore.the_row file_row file_ghosts)
store_send = StoreSent.the_send file_row file_ghosts file_send

store_sync : Send.IsSync (FileStore.the_row file_row file_ghosts)
store_sync = StoreSent.the_sync file_row file_ghosts file_sync

pub records_send : Send.IsSend FileRecords.the_row
records_send =
    Send.recorded_send FileRecords.the_field.row _ _ FileRecords.the_type.to_one (Send.struct_send (Declared.shape FileRecords.the_type) (
      RecordsSent.the_field_send (FileStore.the_row file_row file_ghosts) (store.ghosts file_row file_ghosts store.no_dict) store_send,
      tt,
    ))

pub records_sync : Send.IsSync FileRecords.the_row
records_sync =
    Send.recorded_sync FileRecords.the_field.row _ _ FileRecords.the_type.to_one (Send.struct_sync (Declared.shape FileRecords.the_type) (
      RecordsSent.the_field_sync (FileStore.the_row file_row file_ghosts) (store.ghosts file_row file_ghosts store.no_dict) store_sync,
      tt,
    ))
