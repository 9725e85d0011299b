use Rattle.std.proofs.Common.{◌≡◌, length, rules}
use Rattle.dcc_decode.specs.Lines.{lines_of}
use Rattle.dcc_decode.proofs.ShownLemmas.{shown_step, all_shown}
use Rattle.dcc_decode.proofs.decoding.decode_text.Goals as goal

pub loop-rest-preserved : goal.loop-rest-preserved
loop-rest-preserved c =
    shown_step (lines_of c.args.text.now) (lines_of c.loop-rest.rest.now) (lines_of c.cut_line-cut.result.rest.now)
    c.cut_line-cut.result.line.now c.in_ok-put_line.ensures.0 c.loop-rest.written.items c.put_line.new.out.items
    c.loop-rest.invariant c.cut_line-cut.ensures.lines c.in_ok-put_line.ensures.1 c.in_ok-put_line.ensures.2

pub returns : goal.returns
returns c =
    let none : length c.loop-rest.rest.now ≡ 0 = search rules in
    all_shown (lines_of c.args.text.now) c.loop-rest.rest.now c.loop-rest.written.items c.loop-rest.invariant none
