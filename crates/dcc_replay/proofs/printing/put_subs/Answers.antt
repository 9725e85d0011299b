use Rattle.std.proofs.Common.{string_bytes, arith}
use Rattle.dcc_replay.proofs.PrintingLemmas.{subs_more}
use Rattle.dcc_replay.proofs.printing.put_subs.Goals as goal

pub loop-sub-preserved : goal.loop-sub-preserved
loop-sub-preserved c =
    subs_more c.args.n c.args.subs.now c.loop-sub.sub-index c.sub-item.result (string_bytes c.args.text.now) (string_bytes c.loop-sub.text) _ (omega arith) c.sub-item.is c.loop-sub.invariant c.in_ok-put_sub.ensures
