use Rattle.std.proofs.Common.{string_bytes}
use Rattle.dcc_replay.proofs.PrintingLemmas.{line_step, last_line}
use Rattle.dcc_replay.proofs.printing.printed.Goals as goal

pub returns : goal.returns
returns c = last_line c.args.outs.now c.loop-i.i _ c.loop-i-test.false c.loop-i.invariant

pub loop-i-preserved : goal.loop-i-preserved
loop-i-preserved c =
    line_step c.args.outs.now c.loop-i.i c.index-outs-i.result (string_bytes c.loop-i.text) (string_bytes c.put_out.new.text) _ c.loop-i.invariant c.loop-i-test.true
    (rw (← c.index-outs-i.is) c.in_ok-put_out.ensures)
