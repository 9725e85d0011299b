use Rattle.std.proofs.Common.{◌≡◌, List, ◌++◌, length, Option}
use Rattle.std.specs.List.{AllByRecursion}
use Rattle.dcc_rounds.specs.Gathering.{HasCome, places_from}
use Rattle.dcc_rounds.specs.declared.face.Connection.{Connection}
use Rattle.dcc_rounds.proofs.round.add_places.Given as goal

abbrev pub invariant-loop-gate : goal.invariant-loop-gate
invariant-loop-gate g l =
    (firsts : List (Option (Connection g.row.I.Denot g.row.O.Denot))) × (length firsts ≡ l.gate) × AllByRecursion (HasCome l.rounds.stays) firsts
    × ((later : List (Option (Connection g.row.I.Denot g.row.O.Denot)))
    → l.tasks.items ++ places_from l.rounds.stays l.rounds.every l.gate later l.receivers.items l.senders.items l.replies.items
    ≡ l.fn.tasks.items ++ places_from l.rounds.stays l.rounds.every 0 (firsts ++ later) l.fn.receivers.items l.fn.senders.items l.fn.replies.items)
