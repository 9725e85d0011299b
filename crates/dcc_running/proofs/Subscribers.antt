-- The subscribers of a shard, as it tells them.
use Rattle.std.proofs.Common.{◌≡◌, ◌≢◌, true, false, List, [], Result, Ok, Err, IfOk, inl, inr}
use Rattle.std.specs.Global.{Vec}
use Rattle.std.proofs.lemmas.Bool.{cases_Bool}
use Rattle.dcc_act.specs.declared.sub.Sub.{Sub}
use Rattle.dcc_shard.specs.Shards.{ShardView, held, is_among}
use Rattle.dcc_running.specs.Calls.{AreSubs}

all_of : (shard : ShardView) (subs : List Sub) → ((sub : Sub) → is_among sub subs ≡ true → held shard sub ≢ [])
    → ((sub : Sub) → is_among sub subs ≡ false → held shard sub ≡ []) → AreSubs subs
all_of shard subs some none =
    (shard, λ sub. (some sub, λ is_held. elim (cases_Bool (is_among sub subs)) [ inl among ↦ among | inr apart ↦ absurd (is_held (none sub apart)) ]))

pub subs_of : {E : Type 0} (r : Result (Vec Sub) E) (shard : ShardView) → IfOk r (λ subs. (sub : Sub) → is_among sub subs.items ≡ true → held shard sub ≢ [])
    → IfOk r (λ subs. (sub : Sub) → is_among sub subs.items ≡ false → held shard sub ≡ []) → IfOk r (λ subs. AreSubs subs.items)
subs_of (Ok subs) shard some none = all_of shard subs.items some none
subs_of (Err e) shard some none = tt
