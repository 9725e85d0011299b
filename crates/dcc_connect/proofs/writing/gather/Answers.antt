use Rattle.std.proofs.Common.{subst, sym}
use Rattle.dcc_connect.specs.inner.Gathers.{Gathers, GathersOctets}
use Rattle.dcc_connect.proofs.writing.gather.Goals as goal

pub returns-in-Octets : goal.returns-in-Octets
returns-in-Octets g c =
    subst (λ item. Gathers item c.args.gathered.now c.gather_octets.new.gathered c.args.progress.now c.gather_octets.new.progress (g.O.Write.contents c.args.output.now) (g.O.Write.contents c.gather_octets.new.output)
    (record { left = c.args.tally.now.left; written = c.args.tally.now.written }) (record { left = c.gather_octets.new.tally.left; written = c.gather_octets.new.tally.written })) (sym c.in-Octets.is)
    (subst (λ octets. GathersOctets octets c.args.gathered.now c.gather_octets.new.gathered c.args.progress.now c.gather_octets.new.progress (g.O.Write.contents c.args.output.now) (g.O.Write.contents c.gather_octets.new.output)
    (record { left = c.args.tally.now.left; written = c.args.tally.now.written }) (record { left = c.gather_octets.new.tally.left; written = c.gather_octets.new.tally.written })) c.as_slice.ensures c.gather_octets.ensures)
