use Rattle.std.proofs.Common.{◌≡◌, ◌+◌, map, drop}
use Rattle.dcc_replay.specs.Scripts.{events_from}
use Rattle.dcc_replay.proofs.ScriptLemmas.{prepended}
use Rattle.dcc_replay.proofs.script.read_script.Given as goal

abbrev pub invariant-loop-i : goal.invariant-loop-i
invariant-loop-i l =
    events_from 1 (map (λ line. line.now) l.line-items)
    ≡ prepended l.events.items (events_from (l.i + 1) (map (λ line. line.now) (drop l.i l.line-items)))
