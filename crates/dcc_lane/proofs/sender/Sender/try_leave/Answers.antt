use Rattle.std.proofs.Common.{ap, sym}
use Rattle.crossbeam_queue.specs.Passes.{view}
use Rattle.dcc_lane.proofs.Moves.{puts}
use Rattle.dcc_lane.proofs.sender.Sender.try_leave.Goals as goal

pub push_as-requires-clause-rule : goal.push_as-requires-clause-rule
push_as-requires-clause-rule g c =
    let h = c.args.self.now.known in
    (puts _ _ (view c.args.self.now.pass) (record { from = c.args.self.now.number; item = c.args.item }) (ap (λ v. v.sends) h) (sym (ap (λ v. v.number) h)), λ items views held at. tt)
