use Rattle.dcc_port.proofs.Copies.{one_copied, not_copied}
use Rattle.dcc_port.proofs.backup.copy_all.Goals as goal

pub loop-index-preserved : goal.loop-index-preserved
loop-index-preserved g c =
    one_copied g.S.Server.rules c.args.server.now c.args.folder.now c.loop-index.index c.read.result c.loop-index.invariant
    c.read.ensures.0 c.read.ensures.1 c.in-Ok.is

pub returns-in-Err : goal.returns-in-Err
returns-in-Err g c =
    not_copied g.S.Server.rules c.args.port.now.count c.args.server.now c.args.folder.now c.loop-index.index c.read.result c.loop-index.invariant
    c.loop-index-test.true c.read.ensures.0 c.read.ensures.1 c.in-Err.is
