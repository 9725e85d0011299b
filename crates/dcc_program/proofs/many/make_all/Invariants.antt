use Rattle.dcc_program.specs.TopUps.{AreMadeIn, AreMadeUpTo}
use Rattle.dcc_program.proofs.many.make_all.Given as goal

abbrev pub invariant-loop-index : goal.invariant-loop-index
invariant-loop-index g l = AreMadeUpTo (AreMadeIn (g.S.Stores.opens l.fn.stores l.fn.folder l.fn.plan) g.S.Records.Records.may_leave l.fn.plan.terms l.fn.identity l.fn.plan.shards l.fn.asks)
    l.index (g.W.Write.contents l.fn.output) (g.W.Write.contents l.output)
