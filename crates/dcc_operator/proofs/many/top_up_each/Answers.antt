use Rattle.std.proofs.Common.{◌≡◌, ◌+◌, ◌-◌, ◌<◌, ◌++◌, length, take, drop, ℕ, List, sym, ap, subst, ◌∙◌, arith}
use Rattle.std.proofs.Math.Seq.{take-add}
use Rattle.std.proofs.lemmas.List.{length-append, length-take-le}
use Rattle.dcc_operator.specs.declared.commands.TopUpAsk.{TopUpAsk}
use Rattle.dcc_operator.specs.inner.Batches.{IsMadeOf}
use Rattle.dcc_operator.proofs.Batches.{made_length, made_more}
use Rattle.dcc_operator.proofs.many.top_up_each.Goals as goal

-- a beginning of a list in two parts
parts : (asks : List TopUpAsk) (from end : ℕ) → from < end → take end asks ≡ take from asks ++ take (end - from) (drop from asks)
parts asks from end below = let n : from + (end - from) ≡ end = omega (arith, below) in ap (λ (k : ℕ). take k asks) (sym n) ∙ take-add from (end - from) asks

pub make-requires : goal.make-requires
make-requires g c =
    let i = c.loop-from.invariant in
    let e = c.batch_end-end.ensures in
    let asks = c.args.asks.now in
    let long = made_length c.args.shard.now.shard c.loop-from.shard.shard (take c.loop-from.from asks) c.args.answers.now.items c.loop-from.answers.items i.made in
    let all = ap length (parts asks c.loop-from.from c.batch_end-end.result e.some) ∙ length-append (take c.loop-from.from asks) (take (c.batch_end-end.result - c.loop-from.from) (drop c.loop-from.from asks)) in
    let whole = length-take-le c.batch_end-end.result asks e.within in
    let none = ap length c.requires.empty in
    record { room = omega (arith, long, all, whole, none, e.within, c.requires.room, i.kept) }

pub loop-from-preserved : goal.loop-from-preserved
loop-from-preserved g c =
    let i = c.loop-from.invariant in
    let e = c.batch_end-end.ensures in
    record {
      made = subst (λ (asks : List TopUpAsk). IsMadeOf c.args.shard.now.shard c.make.new.shard.shard asks c.args.answers.now.items c.make.new.answers.items)
          (sym (parts c.args.asks.now c.loop-from.from c.batch_end-end.result e.some))
          (made_more c.args.shard.now.shard c.loop-from.shard.shard c.make.new.shard.shard _ _ _ _ _ i.made c.make.ensures.made);
      kept = omega (arith, i.kept, c.make.ensures.room);
      within = e.within;
    }
