use Rattle.std.proofs.Common.{◌≡◌, ◌+◌, ◌++◌, ◌∷◌, [], take, List, sym, ap, subst, ◌∙◌, arith}
use Rattle.std.proofs.lemmas.List.{take_more, length-take-le}
use Rattle.dcc_operator.specs.declared.commands.TopUpAsk.{TopUpAsk}
use Rattle.dcc_operator.specs.inner.Batches.{IsMadeOf}
use Rattle.dcc_operator.proofs.Batches.{made_length, made_more}
use Rattle.dcc_operator.proofs.many.make.Goals as goal

pub make_one-requires : goal.make_one-requires
make_one-requires g c =
    let i = c.loop-ask.invariant in
    let long = made_length c.args.shard.now.shard c.loop-ask.shard.shard (take c.loop-ask.ask-index c.args.asks.now) c.args.answers.now.items c.loop-ask.answers.items i.made in
    let some = length-take-le c.loop-ask.ask-index c.args.asks.now (omega (arith, c.loop-ask-test.true)) in
    record { room = omega (arith, long, some, c.requires.room, i.kept, c.loop-ask-test.true) }

pub loop-ask-preserved : goal.loop-ask-preserved
loop-ask-preserved g c =
    let i = c.loop-ask.invariant in
    let more : take (c.loop-ask.ask-index + 1) c.args.asks.now ≡ take c.loop-ask.ask-index c.args.asks.now ++ c.ask-item.result ∷ [] =
    take_more c.args.asks.now c.loop-ask.ask-index c.ask-item.result c.loop-ask-test.true
    ∙ ap (λ (ask : TopUpAsk). take c.loop-ask.ask-index c.args.asks.now ++ ask ∷ []) (sym c.ask-item.is) in
    record {
      made = subst (λ (asks : List TopUpAsk). IsMadeOf c.args.shard.now.shard c.make_one.new.shard.shard asks c.args.answers.now.items c.make_one.new.answers.items) (sym more)
          (made_more c.args.shard.now.shard c.loop-ask.shard.shard c.make_one.new.shard.shard _ _ _ _ _ i.made c.make_one.ensures.made);
      kept = omega (arith, i.kept, c.make_one.ensures.room);
    }
