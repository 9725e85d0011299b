use Rattle.std.proofs.Common.{◌≡◌, ◌+◌, map, drop}
use Rattle.dcc_port.specs.Lines.{asks_from}
use Rattle.dcc_port.proofs.LineLemmas.{prepended}
use Rattle.dcc_port.proofs.lines.read_asks.Given as goal

abbrev pub invariant-loop-i : goal.invariant-loop-i
invariant-loop-i l =
    asks_from 1 (map (λ line. line.now) l.line-items)
    ≡ prepended l.asks (asks_from (l.i + 1) (map (λ line. line.now) (drop l.i l.line-items)))
