use Rattle.std.proofs.Common.{◌≡◌, ◌≤◌, length, map, take, vec_capacity}
use Rattle.dcc_operator.specs.inner.Batches.{call_of}
use Rattle.dcc_operator.proofs.many.lists.Given as goal

abbrev pub invariant-loop-ask : goal.invariant-loop-ask
invariant-loop-ask l = record { made : l.calls.items ≡ map call_of (take l.ask-index l.fn.asks); room : length l.fn.asks ≤ vec_capacity l.calls }
