use Rattle.std.proofs.Common.{◌≡◌, ◌≤◌, ℕ, List, length, ◌+◌}
use Rattle.dcc_sockets.specs.Messages.{Continue, ends_behind, left_behind}
use Rattle.dcc_sockets.proofs.messages.Messages.took.Given as goal

abbrev pub invariant-loop-more : goal.invariant-loop-more
invariant-loop-more l = record {
  counted : l.ended + l.more ≤ l.taken;
  on : (messages : List (List ℕ)) → Continue l.fn.self.left messages l.fn.octets → l.fn.taken ≤ length l.fn.octets
      → (later : List (List ℕ)) × Continue l.self.left later l.rest × (l.more ≤ length l.rest)
      × (l.ended + ends_behind l.self.left l.more later ≡ ends_behind l.fn.self.left l.fn.taken messages)
      × (left_behind l.self.left l.more later ≡ left_behind l.fn.self.left l.fn.taken messages);
}

abbrev pub decreases-loop-more : goal.decreases-loop-more
decreases-loop-more l = l.more
