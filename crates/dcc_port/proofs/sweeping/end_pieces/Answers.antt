use Rattle.std.proofs.Common.{◌+◌, ◌≤◌, List, length, refl}
use Rattle.std.specs.List.{between}
use Rattle.dcc_act.specs.Subs.{SubView}
use Rattle.dcc_port.specs.declared.sweeping.TheConstants.{MOST_AT_ONCE}
use Rattle.dcc_port.proofs.Pieces.{begun_more, is_short, some_swept, within_subs}
use Rattle.dcc_port.proofs.sweeping.end_pieces.Goals as goal

pub returns-then-is_ended : goal.returns-then-is_ended
returns-then-is_ended g c =
    some_swept g.S.Server.rules c.args.server.now c.args.moment c.args.subs.now c.loop-at.at c.args.seat.now c.loop-at.seat c.loop-at.tally
    c.if-is_ended.ensures c.loop-at.invariant.begun

pub loop-at-preserved : goal.loop-at-preserved
loop-at-preserved g c =
    let subs = c.args.subs.now in
    let at = c.loop-at.at in
    let len = c.piece_len-len.result in
    let piece : List SubView = between at (at + len) subs in
    let fits : at + len ≤ length subs = within_subs subs at len c.piece_len-len.ensures.within c.loop-at.invariant.within in
    record {
      within = fits;
      begun = begun_more c.args.moment subs at len c.args.seat.now (c.loop-at.seat, c.loop-at.tally) (c.end_piece-part.new.seat, c.sum-tally.result)
          piece c.loop-at.invariant.begun refl
          (is_short subs at len MOST_AT_ONCE fits c.piece_len-len.ensures.few, (c.end_piece-part.result, c.end_piece-part.ensures, c.sum-tally.ensures));
    }
