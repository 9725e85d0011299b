use Rattle.dcc_model.proofs.LawProofs.{last_comes_after, unknown_before, new_are_decided, requests_are_answered, top_ups_are_added, expiries_end}
use Rattle.dcc_model.proofs.Repeats.{repeats_are_firsts, repeats_are_old}
use Rattle.dcc_model.proofs.laws.acts_come_to_their_own.Goals as goal

pub returns : goal.returns
returns c =
    record {
      last = last_comes_after;
      unknown = unknown_before;
      decided = new_are_decided;
      requests = requests_are_answered;
      top_ups = top_ups_are_added;
      expiries = expiries_end;
      repeats = repeats_are_firsts;
      old = repeats_are_old;
    }
