use Rattle.std.proofs.Common.{ℕ, refl, rules}
use Rattle.dcc_rounds.specs.Handing.{ReadsOut}
use Rattle.dcc_rounds.specs.Visiting.{with_new_peer}
use Rattle.dcc_rounds.specs.Writing.{WritesOut}
use Rattle.dcc_rounds.proofs.place.Place.visit.Goals as goal

pub returns-clause-visit : goal.returns-clause-visit
returns-clause-visit g c =
    let shared = c.args.shared.now in
    let e = c.join_mut-read.ensures in
    let input = c.join_mut-read.new.g.2.now in
    let output = c.join_mut-read.new.f.4.now.output in
    let writes : WritesOut c.join_mut-read.result.0 c.args.self.now.from c.join_mut-read.new.f.5.now (g.O.Write.contents c.args.connection.output) (g.O.Write.contents output) =
    search (rules, e) in
    let reads : ReadsOut g.C.Clock.tells shared.clock.now (record { plan = shared.plan.now; identity = shared.identity.now }) shared.count c.join_mut-read.result.1
    (g.I.Read.remaining c.args.connection.input) (g.I.Read.remaining input) (with_new_peer c.args.self.now.reader) c.join_mut-read.new.g.3.now =
    search (rules, e) in (
      record { came = c.args.connection; input = input; output = output; read = c.join_mut-read.result.1; written = c.join_mut-read.result.0 },
      refl,
      record { reads = reads; writes = writes; answered = c.saturating_add-self.ensures },
    )
