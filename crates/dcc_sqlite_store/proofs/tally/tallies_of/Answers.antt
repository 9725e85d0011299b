use Rattle.std.proofs.Common.{◌-◌, pos, arith}
use Rattle.dcc_sqlite_rows.specs.declared.tally.Tally.{Tally}
use Rattle.dcc_sqlite_store.proofs.Tallying.{tallies_begin, tallies_next}
use Rattle.dcc_sqlite_store.proofs.tally.tallies_of.Goals as goal

pub loop-i-init : goal.loop-i-init
loop-i-init c = λ terms _. tallies_begin terms c.args.pages.now _ c.new-tallies.result.entries c.funds_are_accounted_for.ensures.entries (omega arith) c.new-tallies.ensures.empty

pub loop-i-preserved : goal.loop-i-preserved
loop-i-preserved c = λ terms are.
    let none : Tally = record { acts = 0; funds = pos 0 } in
    tallies_next terms c.args.pages.now c.args.counts.now (c.loop-i.i - 1) c.loop-i.i c.index-pages-i.result none c.loop-i.tallies.entries c.put_tally.new.tallies.entries (omega (arith, c.loop-i-test.true))
    (omega (arith, c.loop-i-test.true, c.loop-i.auto.i)) c.index-pages-i.is are (rw c.sub.ensures at c.in_ok-put_tally.ensures) (c.loop-i.invariant terms are)
