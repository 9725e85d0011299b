use Rattle.std.proofs.Common.{◌≡◌, ◌++◌, vec_len}
use Rattle.dcc_rounds.specs.Lanes.{deal, lists_of}
use Rattle.dcc_rounds.proofs.lanes.dealt.Given as goal

abbrev pub decreases-loop-list : goal.decreases-loop-list
decreases-loop-list g l = vec_len l.lists

abbrev pub invariant-loop-list : goal.invariant-loop-list
invariant-loop-list g l = lists_of l.dealt.items ++ deal (lists_of l.lists.items) l.senders.items ≡ deal (lists_of l.fn.lists.items) l.fn.senders.items
