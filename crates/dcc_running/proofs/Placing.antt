-- The acts of a subscriber stand in its shard, and in what a stop leaves of it.
use Rattle.std.proofs.Common.{◌≡◌, ◌<◌, ◌≤◌, Bool, true, false, List, length, get_or, Option, sym, ap, subst, arith}
use Rattle.std.proofs.lemmas.Option.{slice_get-get_or}
use Rattle.dcc_act.specs.declared.sub.Sub.{Sub}
use Rattle.dcc_shard.specs.Routes.{shard_of}
use Rattle.dcc_shard.specs.Shards.{held}
use Rattle.dcc_store.specs.Contents.{Content}
use Rattle.dcc_store.specs.Stops.{LeavesOnly}
use Rattle.dcc_shard.specs.Stored.{StoredView, LeavesHeld, LeavesBatch}
use Rattle.dcc_running.specs.Books.{book, held_by, IsKeptBy}

pub placed_in : {R : Type 0} (parts : List (StoredView R)) (sub : Sub) (none : StoredView R) → 1 ≤ length parts
    → held (get_or parts (shard_of sub (length parts)) none).shard sub ≡ book parts sub
placed_in {R} parts sub none some =
    let r = shard_of sub (length parts) in
    let within : r < length parts = omega (arith, some) in
    sym (ap (λ (o : Option (StoredView R)). held_by o sub) (slice_get-get_or parts r none within))

-- by what a shard says of its records
pub kept_by : {R : Type 0} (is_stopped : R → Bool) (may_leave : R → Content → Type 0) (part : StoredView R) (records : R) → records ≡ part.records
    → (is_stopped records ≡ false → LeavesOnly part.shard.terms (held part.shard) (may_leave records))
    → (is_stopped records ≡ true → LeavesBatch part.shard.terms (held part.shard) (may_leave records)) → LeavesHeld (held part.shard) (may_leave records)
    → IsKeptBy is_stopped may_leave part
kept_by {R} is_stopped may_leave part records same going stopped left = record {
  going = subst (λ (r : R). is_stopped r ≡ false → LeavesOnly part.shard.terms (held part.shard) (may_leave r)) same going;
  stopped = subst (λ (r : R). is_stopped r ≡ true → LeavesBatch part.shard.terms (held part.shard) (may_leave r)) same stopped;
  left = subst (λ (r : R). LeavesHeld (held part.shard) (may_leave r)) same left;
}
