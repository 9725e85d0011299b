-- That threads may share shards, part by part: a search for all of it together is too long. A `Snapshot` has no such lemma of its own.
use denote.RattleType.{RattleType}
use Rattle.libc.specs.Heap.{chunk-Keyless}
use denote.Param.Send
use denote.Param.Send.{IsSend, IsSync, Frees, sendable}
use denote.Struct.Declared
use Rattle.std.specs.contracts.snapshot.Snapshot
use Rattle.std.specs.contracts.impls.GlobalAllocator.TheImpl.{ghosts}
use Rattle.dcc_running.specs.contracts.seen.Seen
use Rattle.dcc_running.specs.contracts.seen.Seen.TheInside as InSeen
use Rattle.dcc_running.specs.contracts.told.Told
use Rattle.dcc_running.specs.contracts.told.Told.TheInside as InTold
use Rattle.dcc_running.specs.contracts.touches.Touches
use Rattle.dcc_running.specs.contracts.touches.Touches.TheInside as InTouches
use Rattle.dcc_running.specs.contracts.lock.Side
use Rattle.dcc_running.specs.contracts.lock.Lock
use Rattle.dcc_running.specs.contracts.ward.Ward
use Rattle.dcc_running.specs.contracts.ward.Ward.TheInside as InWard
use Rattle.dcc_running.specs.contracts.shards.Shards
use Rattle.dcc_running.specs.contracts.shards.Shards.TheInside as InShards
use Rattle.dcc_receipts.proofs.marks.Marks.TheSendSync as MarksSent
use Rattle.dcc_shard.proofs.shard.Shard.TheSendSync as ShardSent
use Rattle.dcc_tariff.proofs.terms.Terms.TheSendSync as TermsSent
use Rattle.dcc_message.proofs.identity.Identity.TheSendSync as IdentitySent
use Rattle.dcc_act.proofs.sub.Sub.TheSendSync as SubSent
use Rattle.dcc_running.proofs.lock.Place.TheSendSync as PlaceSent
use Rattle.std.proofs.collections.HashMap.TheSendSync as MapSent
use Rattle.std.proofs.vec.Vec.TheSendSync as VecSent
use Rattle.std.proofs.alloc.Global.TheSendSync as GlobalSent
use Rattle.std.proofs.sync.Mutex.TheSendSync as MutexSent
use Rattle.std.proofs.marker.PhantomData.TheSendSync as PhantomSent

frees : Frees ghosts ghosts.dealloc_token
frees = record { frees = λ a τ p. chunk-Keyless τ p }

snapshot_send : (T : RattleType) → IsSend (Snapshot.the_row T)
snapshot_send T = record { owned = λ x vs. ((λ _. (tt, ((λ _. (tt, tt)), tt))), tt); leaving = λ k x w. tt }

snapshot_sync : (T : RattleType) → IsSync (Snapshot.the_row T)
snapshot_sync T = record { shared = λ x b o κ q. Send.whole-keyless _ _ (λ z vs. ((λ _. (tt, ((λ _. (tt, tt)), tt))), tt)) q x b o }

in_seen_send : IsSend InSeen.the_row
in_seen_send = Send.recorded_send InSeen.the_field.row _ _ InSeen.the_type.to_one (Send.struct_send (Declared.shape InSeen.the_type) (MarksSent.the_send, (search (frees, snapshot_send, VecSent.the_send, GlobalSent.the_send) depth 10, (search sendable, tt))))

in_seen_sync : IsSync InSeen.the_row
in_seen_sync = Send.recorded_sync InSeen.the_field.row _ _ InSeen.the_type.to_one (Send.struct_sync (Declared.shape InSeen.the_type) (MarksSent.the_sync, (search (frees, snapshot_send, snapshot_sync, VecSent.the_sync, GlobalSent.the_sync, GlobalSent.the_send) depth 10, (search sendable, tt))))

seen_send : IsSend Seen.the_row
seen_send = Send.view_send InSeen.the_row _ _ _ _ in_seen_send

seen_sync : IsSync Seen.the_row
seen_sync = Send.view_sync InSeen.the_row _ _ _ _ in_seen_sync

in_told_send : IsSend InTold.the_row
in_told_send = Send.recorded_send InTold.the_field.row _ _ InTold.the_type.to_one (Send.struct_send (Declared.shape InTold.the_type)
    (seen_send, (search (frees, snapshot_send, VecSent.the_send, GlobalSent.the_send) depth 10, (search (frees, sendable, SubSent.the_send, MapSent.the_send, GlobalSent.the_send) depth 14, tt))))

in_told_sync : IsSync InTold.the_row
in_told_sync = Send.recorded_sync InTold.the_field.row _ _ InTold.the_type.to_one (Send.struct_sync (Declared.shape InTold.the_type)
    (seen_sync, (search (frees, snapshot_send, snapshot_sync, VecSent.the_sync, GlobalSent.the_sync, GlobalSent.the_send) depth 10, (search (frees, sendable, SubSent.the_sync, MapSent.the_sync, GlobalSent.the_sync, GlobalSent.the_send) depth 14, tt))))

told_send : IsSend Told.the_row
told_send = Send.view_send InTold.the_row _ _ _ _ in_told_send

told_sync : IsSync Told.the_row
told_sync = Send.view_sync InTold.the_row _ _ _ _ in_told_sync

in_touches_send : IsSend InTouches.the_row
in_touches_send = Send.recorded_send InTouches.the_field.row _ _ InTouches.the_type.to_one (Send.struct_send (Declared.shape InTouches.the_type)
    (search (frees, sendable, SubSent.the_send, MapSent.the_send, GlobalSent.the_send) depth 12, tt))

in_touches_sync : IsSync InTouches.the_row
in_touches_sync = Send.recorded_sync InTouches.the_field.row _ _ InTouches.the_type.to_one (Send.struct_sync (Declared.shape InTouches.the_type)
    (search (frees, sendable, SubSent.the_sync, MapSent.the_sync, GlobalSent.the_sync, GlobalSent.the_send) depth 12, tt))

touches_send : IsSend Touches.the_row
touches_send = Send.view_send InTouches.the_row _ _ _ _ in_touches_send

touches_sync : IsSync Touches.the_row
touches_sync = Send.view_sync InTouches.the_row _ _ _ _ in_touches_sync

side_send : IsSend Side.the_row
side_send = Send.recorded_send Side.the_field.row _ _ Side.the_type.to_one (Send.struct_send (Declared.shape Side.the_type) (PlaceSent.the_field_send, (told_send, (touches_send, tt))))

side_sync : IsSync Side.the_row
side_sync = Send.recorded_sync Side.the_field.row _ _ Side.the_type.to_one (Send.struct_sync (Declared.shape Side.the_type) (PlaceSent.the_field_sync, (told_sync, (touches_sync, tt))))

in_ward_send : (R J : RattleType) (records : _) (naming : _) → IsSend R → IsSend J → IsSend (InWard.the_row R J records naming)
in_ward_send R J records naming r j =
    Send.recorded_send (InWard.the_field R J records naming).row _ _ (InWard.the_type R J records naming).to_one (Send.struct_send (Declared.shape (InWard.the_type R J records naming))
    (PlaceSent.the_field_send, (ShardSent.the_send R records r, (told_send, (touches_send, (search (sendable, PhantomSent.the_send) depth 6, tt))))))

ward_send : (R J : RattleType) (records : _) (naming : _) → IsSend R → IsSend J → IsSend (Ward.the_row R J records naming)
ward_send R J records naming r j = Send.view_send (InWard.the_row R J records naming) _ _ _ _ (in_ward_send R J records naming r j)

lock_sync : (R J : RattleType) (records : _) (naming : _) → IsSend R → IsSend J → IsSync (Lock.the_row R J records naming)
lock_sync R J records naming r j =
    Send.recorded_sync (Lock.the_field R J records naming).row _ _ (Lock.the_type R J records naming).to_one (Send.struct_sync (Declared.shape (Lock.the_type R J records naming))
    (PlaceSent.the_field_sync, (search (ward_send, MutexSent.the_sync) depth 6, tt)))

in_ward_sync : (R J : RattleType) (records : _) (naming : _) → IsSync R → IsSync J → IsSync (InWard.the_row R J records naming)
in_ward_sync R J records naming r j =
    Send.recorded_sync (InWard.the_field R J records naming).row _ _ (InWard.the_type R J records naming).to_one (Send.struct_sync (Declared.shape (InWard.the_type R J records naming))
    (PlaceSent.the_field_sync, (ShardSent.the_sync R records r, (told_sync, (touches_sync, (search (sendable, PhantomSent.the_sync) depth 6, tt))))))

ward_sync : (R J : RattleType) (records : _) (naming : _) → IsSync R → IsSync J → IsSync (Ward.the_row R J records naming)
ward_sync R J records naming r j = Send.view_sync (InWard.the_row R J records naming) _ _ _ _ (in_ward_sync R J records naming r j)

in_shards_sync : (R J : RattleType) (records : _) (naming : _) → IsSend R → IsSync R → IsSend J → IsSync J → IsSync (InShards.the_row R J records naming)
in_shards_sync R J records naming r rs j js =
    Send.recorded_sync (InShards.the_field R J records naming).row _ _ (InShards.the_type R J records naming).to_one (Send.struct_sync (Declared.shape (InShards.the_type R J records naming)) (
      TermsSent.the_sync,
      (
        IdentitySent.the_field_sync,
        (
          search (sendable, SubSent.the_sync, MapSent.the_sync, GlobalSent.the_sync, GlobalSent.the_send, frees) depth 12,
          (
            search (lock_sync, VecSent.the_sync, GlobalSent.the_sync) depth 8,
            (
              search (ward_sync, VecSent.the_sync, GlobalSent.the_sync) depth 8,
              (
                search (ShardSent.the_sync, VecSent.the_sync, GlobalSent.the_sync) depth 8,
                (
                  search (side_sync, VecSent.the_sync, GlobalSent.the_sync) depth 8,
                  (search sendable, (search (sendable, PhantomSent.the_sync) depth 6, tt)),
                ),
              ),
            ),
          ),
        ),
      ),
    ))

pub shards_sync : (R J : RattleType) (records : _) (naming : _) → IsSend R → IsSync R → IsSend J → IsSync J → IsSync (Shards.the_row R J records naming)
shards_sync R J records naming r rs j js = Send.view_sync (InShards.the_row R J records naming) _ _ _ _ (in_shards_sync R J records naming r rs j js)
