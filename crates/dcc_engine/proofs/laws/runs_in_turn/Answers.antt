use Rattle.dcc_engine.proofs.Moves.{AreStable}
use Rattle.dcc_engine.proofs.InTurn.{runs_joined, held_in_turn, peers_in_turn, asks_in_turn, answers_in_turn, own_in_turn}
use Rattle.dcc_engine.proofs.laws.runs_in_turn.Goals as goal

pub returns-clause-run : goal.returns-clause-run
returns-clause-run c =
    let e = c.leaving_out_changes_nothing.ensures in
    let stable : AreStable =
    record { after_stays = e.after; new_stays = e.is_new; place_stays = e.place; acts_stay = e.acts; whole = e.whole; openers_stay = e.openers; one_opens = c.one_more_act_opens.ensures; same_are_equal = c.same_subscribers_are_equal.ensures } in
    runs_joined stable c.later_acts_change_no_outcome.ensures c.acts_come_to_their_own.ensures.last

pub returns-clause-acts : goal.returns-clause-acts
returns-clause-acts c =
    let e = c.leaving_out_changes_nothing.ensures in
    let stable : AreStable =
    record { after_stays = e.after; new_stays = e.is_new; place_stays = e.place; acts_stay = e.acts; whole = e.whole; openers_stay = e.openers; one_opens = c.one_more_act_opens.ensures; same_are_equal = c.same_subscribers_are_equal.ensures } in
    held_in_turn stable

pub returns-clause-peers : goal.returns-clause-peers
returns-clause-peers c = peers_in_turn

pub returns-clause-asks : goal.returns-clause-asks
returns-clause-asks c =
    let e = c.leaving_out_changes_nothing.ensures in
    let stable : AreStable =
    record { after_stays = e.after; new_stays = e.is_new; place_stays = e.place; acts_stay = e.acts; whole = e.whole; openers_stay = e.openers; one_opens = c.one_more_act_opens.ensures; same_are_equal = c.same_subscribers_are_equal.ensures } in
    asks_in_turn stable

pub returns-clause-answers : goal.returns-clause-answers
returns-clause-answers c =
    let e = c.leaving_out_changes_nothing.ensures in
    let stable : AreStable =
    record { after_stays = e.after; new_stays = e.is_new; place_stays = e.place; acts_stay = e.acts; whole = e.whole; openers_stay = e.openers; one_opens = c.one_more_act_opens.ensures; same_are_equal = c.same_subscribers_are_equal.ensures } in
    answers_in_turn stable

pub returns-clause-own : goal.returns-clause-own
returns-clause-own c =
    let e = c.leaving_out_changes_nothing.ensures in
    let stable : AreStable =
    record { after_stays = e.after; new_stays = e.is_new; place_stays = e.place; acts_stay = e.acts; whole = e.whole; openers_stay = e.openers; one_opens = c.one_more_act_opens.ensures; same_are_equal = c.same_subscribers_are_equal.ensures } in
    own_in_turn stable
