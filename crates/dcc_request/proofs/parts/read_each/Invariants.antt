use Rattle.std.proofs.Common.{◌≡◌, drop}
use Rattle.std.specs.Prelude.{filter}
use Rattle.dcc_request.specs.Refusals.{each}
use Rattle.dcc_request.proofs.Walks.{after}
use Rattle.dcc_request.proofs.parts.read_each.Given as goal

abbrev pub invariant-loop-avp : goal.invariant-loop-avp
invariant-loop-avp g l =
    after l.parts.items (each g.P.Parts.part_of (filter (g.P.Parts.holds l.kind) (drop l.avp-index l.avps)))
    ≡ each g.P.Parts.part_of (filter (g.P.Parts.holds l.kind) l.avps)
