use Rattle.std.proofs.Common.{◌≡◌, ◌+◌, map, drop}
use Rattle.dcc_operator.specs.Lines.{asks_from}
use Rattle.dcc_operator.proofs.LineLemmas.{prepended}
use Rattle.dcc_operator.proofs.lines.read_asks.Given as goal

abbrev pub invariant-loop-i : goal.invariant-loop-i
invariant-loop-i l =
    asks_from l.fn.now 1 (map (λ line. line.now) l.line-items)
    ≡ prepended l.asks.items (asks_from l.fn.now (l.i + 1) (map (λ line. line.now) (drop l.i l.line-items)))
