use Rattle.std.proofs.Common.{List, length, get_or, ap, subst, arith}
use Rattle.dcc_shard.specs.Shards.{AreOwn}
use Rattle.dcc_shard.specs.Stored.{StoredView}
use Rattle.dcc_shard.proofs.Routing.{held_where_kept, is_below, own_as_one}
use Rattle.dcc_shard.proofs.shards.Shards.new.Goals as goal

pub invariant_of-result : goal.invariant_of-result
invariant_of-result g c = record {
  some = c.requires.some;
  most = c.requires.most;
  terms_are = c.requires.terms;
  identity_is = c.requires.identity;
  own = own_as_one c.same_subscribers_are_equal.ensures c.args.terms.now c.args.identity c.args.shards.items c.requires.some c.requires.terms (λ i none below.
      let P = λ (items : List (StoredView g.row.R.Denot)). AreOwn (get_or items i none).shard in
      let many = ap length c.deref-shard-items.ensures.value in
      subst P c.deref-shard-items.ensures.value (c.loop-shard.invariant i none (omega (arith, below, many, c.loop-shard-test.false))));
  placed = c.requires.placed;
}

pub returns-clause-held : goal.returns-clause-held
returns-clause-held g c = λ sub none.
    held_where_kept c.same_subscribers_are_equal.ensures c.args.terms.now c.args.identity c.args.shards.items none sub (is_below c.args.shards.items c.requires.some sub)

pub returns-clause-own : goal.returns-clause-own
returns-clause-own g c =
    own_as_one c.same_subscribers_are_equal.ensures c.args.terms.now c.args.identity c.args.shards.items c.requires.some c.requires.terms (λ i none below.
    let P = λ (items : List (StoredView g.row.R.Denot)). AreOwn (get_or items i none).shard in
    let many = ap length c.deref-shard-items.ensures.value in
    subst P c.deref-shard-items.ensures.value (c.loop-shard.invariant i none (omega (arith, below, many, c.loop-shard-test.false))))
