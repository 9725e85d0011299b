use Rattle.std.proofs.Common.{◌-◌, arith}
use Rattle.dcc_connect.proofs.Batches.{within_few}
use Rattle.dcc_connect.proofs.writing.flush.Goals as goal

pub overflow_add-progress : goal.overflow_add-progress
overflow_add-progress g c =
    let whole = c.whole.ensures in
    let few = within_few (c.send-sent.new.tally.written - c.args.tally.now.written) c.args.gathered.now.ends.items in
    let room = c.requires.answers in
    omega arith
