use Rattle.dcc_hosts.proofs.LawProofs.{after_unhosted, new_unhosted, place_unhosted, outcomes_unhosted, acts_unhosted, kept_unhosted, account_unhosted}
use Rattle.dcc_hosts.proofs.laws.hosts_change_nothing.Goals as goal

pub returns : goal.returns
returns c =
    record {
      after = after_unhosted;
      is_new = new_unhosted;
      place = place_unhosted;
      outcomes = outcomes_unhosted;
      acts = acts_unhosted;
      kept = kept_unhosted;
      account = account_unhosted;
    }
