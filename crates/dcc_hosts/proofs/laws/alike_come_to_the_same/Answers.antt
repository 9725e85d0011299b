use Rattle.dcc_hosts.proofs.LawProofs.{after_alike, new_alike, place_alike, outcomes_alike, acts_alike, kept_alike, account_alike}
use Rattle.dcc_hosts.proofs.laws.alike_come_to_the_same.Goals as goal

pub returns : goal.returns
returns c =
    record {
      after = after_alike;
      is_new = new_alike;
      place = place_alike;
      outcomes = outcomes_alike;
      acts = acts_alike;
      kept = kept_alike;
      account = account_alike;
    }
