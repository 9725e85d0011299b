use Rattle.std.proofs.Common.{[], refl, Ok, Err}
use Rattle.dcc_base.proofs.Told.{Laws, replied_apart, read_short, replied_some}
use Rattle.dcc_base.proofs.Sizes.{shown_all, shown_unread}
use Rattle.dcc_base.proofs.laws.told_apart.Goals as goal

pub returns : goal.returns
returns c =
    let laws : Laws = record { told = c.busy_by_result.ensures.told; spelled = c.read_back.ensures.error; shown = c.read_back.ensures.shown; errors = c.busy_by_result.ensures.error } in
    let law = c.shown_within.ensures in
    record {
      read = λ identity peer header avps server four few p.
          replied_apart laws identity peer header (Ok avps) server four (record { short = read_short avps; spelled = p })
          (shown_all law.missing header avps (law.list avps few) (λ command. law.refused command avps few) (λ command. law.groups command avps few));
      unread = λ identity peer header fault server four.
          replied_apart laws identity peer header (Err fault) server four (record { short = λ octets e. absurd cc; spelled = ([], tt, refl) }) (shown_unread law.unread header fault);
      some = replied_some c.busy_by_result.ensures.some c.busy_by_result.ensures.error_some;
    }
