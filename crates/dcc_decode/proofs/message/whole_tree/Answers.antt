use Rattle.std.proofs.Common.{rules, ◌≡◌, string_bytes}
use Rattle.dcc_decode.specs.Texts.{title_of}
use Rattle.dcc_decode.proofs.TreeLemmas.{tree_below}
use Rattle.dcc_decode.proofs.message.whole_tree.Goals as goal

pub returns : goal.returns
returns c =
    let title : string_bytes c.put_command.new.text ≡ title_of c.args.header.now = search rules in
    tree_below _ _ _ _ title c.in_ok-put_below.ensures
