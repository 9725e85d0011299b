use mir.Syntax.{named, of_param}
use base.Fraction.{full_share}
use denote.Param.Send
use denote.Param.Send.{IsSend, IsSync, sendable}
use denote.Ref.{NamedLft}
use denote.Struct.Declared
use Rattle.dcc_act.proofs.sub.Sub.TheSendSync as SubSent
use Rattle.dcc_callers.specs.contracts.callers.Caller
use Rattle.dcc_running.proofs.Sharing.{shards_sync}
use Rattle.dcc_running.proofs.seat.Seat.TheSendSync as SeatSent
use Rattle.dcc_running.specs.contracts.naming.BrandNaming.TheImpl as naming
use Rattle.dcc_running.specs.contracts.shards.Shards
use Rattle.dcc_store.proofs.memory.MemoryRecords.TheSendSync as MemorySent
use Rattle.dcc_test_stores.proofs.gate.Gate.TheSendSync as GateSent
use Rattle.dcc_test_stores.specs.contracts.records.GateRecords
use Rattle.dcc_test_stores.specs.contracts.records.GateRecordsRecords.TheImpl as records
use Rattle.std.proofs.alloc.Global.TheSendSync as GlobalSent
use Rattle.std.specs.contracts.marker.Brand
use Rattle.dcc_serving_tests.proofs.gates.call_at_once.Goals as goal

caller_send : IsSend Caller.the_row
caller_send = Send.recorded_send Caller.the_field.row _ _ Caller.the_type.to_one (Send.struct_send (Declared.shape Caller.the_type) (SubSent.the_send, (search (sendable) depth 4, (search (sendable) depth 4, (SeatSent.the_send, tt)))))

brand_send : IsSend Brand.the_row
brand_send = search (sendable) depth 4

brand_sync : IsSync Brand.the_row
brand_sync = search (sendable) depth 4

gate_send : (ℓ : NamedLft) → IsSend (GateRecords.the_row ℓ)
gate_send ℓ = search (sendable, MemorySent.the_send, GateSent.the_sync) depth 8

gate_sync : (ℓ : NamedLft) → IsSync (GateRecords.the_row ℓ)
gate_sync ℓ = search (sendable, MemorySent.the_sync, GateSent.the_sync) depth 8

gates_sync : (ℓ : NamedLft) → IsSync (Shards.the_row (GateRecords.the_row ℓ) Brand.the_row records.ghosts naming.ghosts)
gates_sync ℓ = shards_sync (GateRecords.the_row ℓ) Brand.the_row records.ghosts naming.ghosts (gate_send ℓ) (gate_sync ℓ) brand_send brand_sync

-- src/gates.rt:50:33: the closure's captures: the caller, `rt`, the allocator and the shards
pub join-topped-requires-send-F : goal.join-topped-requires-send-F
join-topped-requires-send-F g c κs within = record {
  owned = λ x vs. λ vss. (
    tt,
    (
      (tt, (tt, λ y. (Send.part_keyless Caller.the_row caller_send full_share y x.0.ref_ptr.0 x.0.ref_ptr.1, tt))),
      (
        (tt, c.type_bounds.sync-W.shared x.1.now x.1.ref_ptr.0 x.1.ref_ptr.1 κs.1.1.1.1.1.1.1.1.0),
        (
          (tt, GlobalSent.the_sync.shared x.2.now x.2.ref_ptr.0 x.2.ref_ptr.1 κs.0),
          ((tt, (gates_sync (record { mir = named 11; lft = κs.1.1.1.1.1.1.1.1.1.1.1.0 })).shared x.3.now x.3.ref_ptr.0 x.3.ref_ptr.1 κs.1.1.1.1.1.1.1.1.1.1.0), tt),
        ),
      ),
    ),
  );
  leaving = λ k. Send.Quiet-if (k (of_param 1)) _ _ (λ x w. (tt, tt)) (λ x w. tt);
}
