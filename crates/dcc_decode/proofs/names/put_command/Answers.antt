use Rattle.dcc_decode.proofs.TreeLemmas.{unnamed}
use Rattle.dcc_decode.proofs.names.put_command.Goals as goal

pub returns-in-None : goal.returns-in-None
returns-in-None c =
    rw (unnamed c.args.header.now c.kind_of-kind.result.now c.code_of-code.result c.kind_of-kind.ensures c.code_of-code.ensures c.in-None.ensures)
    c.write-in-None.ensures.bytes
