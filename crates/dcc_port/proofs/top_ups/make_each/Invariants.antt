use Rattle.std.proofs.Common.{◌≡◌, ◌≤◌, ◌*◌, [], take, vec_len, vec_capacity}
use Rattle.std.specs.List.{FoldsTo}
use Rattle.dcc_port.specs.Answers.{TopsUp}
use Rattle.dcc_port.specs.declared.top_ups.TheConstants.{MOST_LINE}
use Rattle.dcc_port.proofs.top_ups.make_each.Given as goal

abbrev pub invariant-loop-ask : goal.invariant-loop-ask
invariant-loop-ask g l = record {
  made : FoldsTo (TopsUp l.moment) (l.fn.seat, []) (take l.ask-index l.asks) (l.seat, l.text.items);
  few : vec_len l.text ≤ l.ask-index * MOST_LINE;
  room : vec_capacity l.fn.text ≤ vec_capacity l.text;
}
