use Rattle.std.proofs.Common.{ℕ, sym, subst}
use Rattle.dcc_rounds.specs.Handing.{ReadsOut}
use Rattle.dcc_rounds.proofs.place.read_from.Goals as goal

pub returns : goal.returns
returns g c =
    let shared = c.args.shared.now in
    subst
    (λ (count : ℕ). ReadsOut g.C.Clock.tells shared.clock.now (record { plan = shared.plan.now; identity = shared.identity.now }) count c.read_gate.result
    (g.I.Read.remaining c.args.input.now) (g.I.Read.remaining c.read_gate.new.input) c.args.reader.now c.read_gate.new.reader)
    (sym shared.counted) c.read_gate.ensures
