use Rattle.std.proofs.Common.{string_bytes}
use Rattle.dcc_replay.specs.Printed.{topped_up, refused}
use Rattle.dcc_replay.proofs.PrintingLemmas.{both_lines}
use Rattle.dcc_replay.proofs.printing.put_told.Goals as goal

pub returns-clause-line : goal.returns-clause-line
returns-clause-line c =
    let out = c.args.out.now in
    both_lines c.args.n (topped_up out) (refused out) (string_bytes c.args.text.now) _ _ c.in_ok-has_top_up.ensures.line c.in_ok-has_refused.ensures.line
