use Rattle.std.proofs.Common.{codes}
use Rattle.std.specs.List.{flat_map}
use Rattle.dcc_port.specs.Accounts.{deadline_text, name_octet, name_text}
use Rattle.dcc_port.proofs.Results.{on_ok}
use Rattle.dcc_port.proofs.Parts.{three_more}
use Rattle.dcc_port.proofs.account.put_name.Goals as goal

pub returns : goal.returns
unfolding name_text
returns c =
    on_ok c.put_deadline.result
    (three_more c.args.text.now.items c.extend_from_slice.new.self.items c.put_octets.new.text.items c.put_deadline.new.text.items
    (codes "{\"session\":\"") (flat_map name_octet c.args.sid.now) (deadline_text c.args.deadline)
    c.in_ok-extend_from_slice.ensures.items c.in_ok-put_octets.ensures)
    c.put_deadline.ensures
