use Rattle.std.proofs.Common.{◌≡◌, ◌++◌, List, get_or, sym, subst}
use Rattle.dcc_receipts.specs.declared.receipt.Receipt.{Receipt}
use Rattle.dcc_running.specs.Batches.{CountsEach, EndsEach}
use Rattle.dcc_running.specs.Tallies.{no_tally, tallied}
use Rattle.dcc_running.specs.declared.tally.Tally.{Tally}
use Rattle.dcc_running.specs.inner.Batches.{AreKeptAt, all_end_receipts}
use Rattle.dcc_shard.specs.Routes.{shard_of}
use Rattle.dcc_shard.specs.declared.call.Call.{Call}
use Rattle.dcc_running.proofs.Batching.{counts_each, ends_each, kept_ends}
use Rattle.dcc_running.proofs.shards.Shards.expire_all.Goals as goal

pub lock_of_all-shard-requires : goal.lock_of_all-shard-requires
lock_of_all-shard-requires g c =
    let one = c.in-Some.first.now in
    let count = c.args.self.now.count in
    let first : get_or c.args.subs.now 0 one ≡ one = sym c.in-Some.ensures.item.1 in
    subst (λ (calls : List Call). AreKeptAt (record { index = shard_of one count; count = count }) calls) (sym c.as_slice.ensures.value)
    (kept_ends count c.args.moment one c.args.subs.now c.in-Ok.calls.items c.in-Ok.ensures.calls c.requires.shard first)

pub returns-clause-ends : goal.returns-clause-ends
returns-clause-ends g c =
    let told = c.args.seat.now in
    let rs = c.end_all.new.replies.items in
    let is : c.ease_behind.new.seat ≡ told ++ all_end_receipts c.args.moment c.args.subs.now rs = cc in
    subst (λ (end : List Receipt). EndsEach c.args.moment c.args.subs.now told end) (sym is)
    (ends_each c.deref_mut-2.result.now.shard c.args.moment c.args.subs.now rs told c.end_all.ensures.answers)

pub returns-clause-counted : goal.returns-clause-counted
returns-clause-counted g c =
    let told = c.args.seat.now in
    let rs = c.end_all.new.replies.items in
    let is : c.ease_behind.new.seat ≡ told ++ all_end_receipts c.args.moment c.args.subs.now rs = cc in
    let counts : c.tallied.result ≡ tallied no_tally rs = cc in
    subst (λ (tally : Tally). CountsEach c.args.moment c.args.subs.now told c.ease_behind.new.seat tally) (sym counts)
    (subst (λ (end : List Receipt). CountsEach c.args.moment c.args.subs.now told end (tallied no_tally rs)) (sym is)
    (counts_each c.deref_mut-2.result.now.shard c.args.moment c.args.subs.now rs told no_tally c.end_all.ensures.answers))
