use Rattle.dcc_model.proofs.LawProofs.{after_stays, new_stays, place_stays, outcomes_stay, acts_stay, acts_are_acts, no_acts, kept_stay, openers_stay, account_stays}
use Rattle.dcc_model.proofs.laws.leaving_out_changes_nothing.Goals as goal

pub returns : goal.returns
returns c =
    record {
      after = after_stays;
      is_new = new_stays;
      place = place_stays;
      outcomes = outcomes_stay;
      acts = acts_stay;
      whole = acts_are_acts;
      none = no_acts;
      kept = kept_stay;
      openers = openers_stay;
      account = account_stays;
    }
