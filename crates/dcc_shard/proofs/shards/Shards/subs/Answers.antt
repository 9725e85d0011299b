use Rattle.std.proofs.Common.{sym, ap, ◌∙◌, ◌≡◌, ◌≢◌, [], true, false}
use Rattle.dcc_act.specs.declared.sub.Sub.{Sub}
use Rattle.dcc_shard.specs.Shards.{held, is_among}
use Rattle.dcc_shard.specs.Routes.{shard_of}
use Rattle.dcc_shard.proofs.Routing.{some_at_shard, none_at_shard}
use Rattle.dcc_shard.proofs.RoutedSubs.{up_to_none, up_to_next, once_in_order}
use Rattle.dcc_shard.proofs.shards.Shards.subs.Goals as goal

pub loop-i-init : goal.loop-i-init
loop-i-init g c = rw c.new-all.ensures.items (up_to_none c.len-count.result (held c.args.self.now.shard))

pub loop-i-preserved : goal.loop-i-preserved
loop-i-preserved g c =
    let shards = c.self.inside.shards.items in
    let many = c.len-count.ensures ∙ c.self.inside.shards.ok.0 in
    let none : (sub : Sub) → shard_of sub c.len-count.result ≡ c.loop-i.i → is_among sub c.in_ok-subs.subs.items ≡ false → held c.args.self.now.shard sub ≡ [] =
    λ sub there apart.
    rw (← c.self.view_is) (none_at_shard c.same_subscribers_are_equal.ensures c.self.inside.terms c.self.inside.identity shards c.loop-i.i c.index-shard.result.now sub c.self.invariant
    (ap (shard_of sub) (sym many) ∙ there) c.index-shard.ensures (c.in_ok-subs.ensures.none sub apart)) in
    let some : (sub : Sub) → shard_of sub c.len-count.result ≡ c.loop-i.i → is_among sub c.in_ok-subs.subs.items ≡ true → held c.args.self.now.shard sub ≢ [] =
    λ sub there among.
    rw (← c.self.view_is) (some_at_shard c.same_subscribers_are_equal.ensures c.self.inside.terms c.self.inside.identity shards c.loop-i.i c.index-shard.result.now sub c.self.invariant
    (ap (shard_of sub) (sym many) ∙ there) c.index-shard.ensures (c.in_ok-subs.ensures.some sub among)) in
    rw (c.in_ok-add_own.ensures, c.deref.ensures.value) (up_to_next c.same_subscribers_are_equal.ensures c.len-count.result c.loop-i.i (held c.args.self.now.shard) c.loop-i.all.items c.in_ok-subs.subs.items c.loop-i.invariant
    c.in_ok-subs.ensures.order some none)

pub returns-clause-once : goal.returns-clause-once
returns-clause-once g c = once_in_order c.same_subscribers_are_equal.ensures c.len-count.result c.loop-i.all.items c.loop-i.invariant.order

pub returns-clause-some : goal.returns-clause-some
returns-clause-some g c = c.loop-i.invariant.some
