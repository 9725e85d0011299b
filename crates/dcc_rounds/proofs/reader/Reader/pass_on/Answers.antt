use Rattle.std.proofs.Common.{sym, ap, refl, subst}
use Rattle.std.proofs.Math.ListN.{length-map}
use Rattle.dcc_connect.specs.declared.handing.Handed.TheVariants.{Stays}
use Rattle.dcc_lane.specs.Ends.{put_of}
use Rattle.dcc_rounds.specs.Handing.{Passes, reading_of}
use Rattle.dcc_rounds.proofs.Handings.{passed_as}
use Rattle.dcc_rounds.proofs.reader.Reader.pass_on.Goals as goal

pub returns-in-Asked-clause-passed : goal.returns-in-Asked-clause-passed
returns-in-Asked-clause-passed g c =
    subst (λ word. Passes c.args.self.now.gate word Stays (reading_of c.args.self.now) (reading_of c.ask.new.self)) (sym c.in-Asked.is)
    (passed_as c.args.self.now.gate _ (reading_of c.args.self.now) (reading_of c.ask.new.self) c.in-Asked.asked _
    refl refl (length-map c.args.self.now.workers.items put_of) c.ask.ensures.asked (ap put_of c.ask.ensures.writer) c.ask.ensures.requests c.ask.ensures.sweeps)
