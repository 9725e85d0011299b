-- The entries that the acts of one subscriber leave in the books.
use Rattle.std.specs.Prelude.{ℕ, ◌+◌, ℤ, pos, neg_ℤ, ◌+ℤ◌, if◌then◌else◌, List, [], ◌∷◌, ◌++◌, length, reverse, filter_map, Option, None, option_map, unwrap_or}
use Rattle.std.specs.Option.{option_to_list, option_map_or}
use Rattle.dcc_tariff.specs.Terms.{TermsView}
use Rattle.dcc_act.specs.declared.act.Act.{Act}
use Rattle.dcc_act.specs.declared.one_time_event.OneTimeEvent.{OneTimeEvent}
use Rattle.dcc_act.specs.declared.act.Kind.{Kind}
use Rattle.dcc_act.specs.declared.act.Kind.TheVariants as kind
use Rattle.dcc_act.specs.declared.top_up.TopUp.{TopUp}
use Rattle.dcc_act.specs.declared.entry.Entry.{Entry}
use Rattle.dcc_act.specs.declared.entry.EntryKind.TheVariants as entry
use Rattle.dcc_act.specs.declared.entry.EntryName.TheVariants.{Ticket, Session}
use Rattle.dcc_act.specs.declared.grant.Grant.{Grant}
use Rattle.dcc_act.specs.declared.outcome.Outcome.{Outcome}
use Rattle.dcc_model.specs.declared.done.Done.{Done}
use Rattle.dcc_act.specs.Services.{ServiceView}
use Rattle.dcc_model.specs.Results.{is_added}
use Rattle.dcc_model.specs.Sessions.{Sid, looked_at, accepted_by}
use Rattle.dcc_model.specs.Money.{charged_event, refunded_event, grant_price, charge}
use Rattle.dcc_model.specs.Outcomes.{judged, is_made, history}

-- a top-up's entry, which charges no units
abbrev pub top_up_entry : ℕ → ℕ → TopUp → Entry
top_up_entry place moment top_up =
    record {
      place = place;
      moment = moment;
      kind = entry.TopUp;
      group = None;
      units = 0;
      amount = pos top_up.amount;
      name = Ticket top_up.ticket;
    }

-- a direct debit's entry, also if it cost nothing
abbrev pub debit_entry : ℕ → ℕ → OneTimeEvent → Grant → Entry
debit_entry place moment event grant =
    record {
      place = place;
      moment = moment;
      kind = entry.Debit;
      group = event.service.group;
      units = grant.units;
      amount = neg_ℤ (pos (grant_price grant));
      name = Session event.key.sid;
    }

-- a refund's entry, also if it refunded nothing
abbrev pub refund_entry : ℕ → ℕ → OneTimeEvent → Grant → Entry
refund_entry place moment event grant =
    record {
      place = place;
      moment = moment;
      kind = entry.Refund;
      group = event.service.group;
      units = grant.units;
      amount = pos (grant_price grant);
      name = Session event.key.sid;
    }

-- a charged report's entry, also if it cost nothing
abbrev pub charge_entry : ℕ → ℕ → Sid → ServiceView → ℕ → Entry
charge_entry place moment sid service cost =
    record {
      place = place;
      moment = moment;
      kind = entry.Charge;
      group = service.group;
      units = unwrap_or service.used 0;
      amount = neg_ℤ (pos cost);
      name = Session sid;
    }

-- the entries of a request's reports that are charged, in the order of its services
abbrev pub charge_entries : TermsView → List Done → ℕ → ℕ → Sid → List ServiceView → List Entry
charge_entries terms past place moment sid services =
    filter_map (λ service. option_map (charge_entry place moment sid service) (charge terms past sid service)) services

-- the entries of an act at this place, after the acts that were made before it
abbrev pub entries_of_kind : TermsView → List Done → ℕ → ℕ → Kind → Outcome → List Entry
entries_of_kind terms past place moment (kind.TopUp top_up) outcome = if is_added outcome then top_up_entry place moment top_up ∷ [] else []
entries_of_kind terms past place moment (kind.Event event) outcome =
    option_to_list (option_map (debit_entry place moment event) (charged_event event outcome)) ++
    option_to_list (option_map (refund_entry place moment event) (refunded_event event outcome))
entries_of_kind terms past place moment kind outcome =
    option_map_or (λ sid. charge_entries terms past place moment sid (looked_at kind)) (accepted_by kind outcome) []

-- places count from 1
abbrev pub entries_by : TermsView → List Done → Done → List Entry
entries_by terms past done = entries_of_kind terms past (length past + 1) done.act.moment done.act.kind done.outcome

-- the entries that one more act adds: none if it isn't made
abbrev pub entries_with : TermsView → List Done → Act → List Entry
entries_with terms past act = if is_made terms past act then entries_by terms past (record { act = act; outcome = judged terms past act }) else []

-- the entries of all acts, in their order
abbrev pub entries_of : TermsView → List Done → List Entry
entries_of terms [] = []
entries_of terms (done ∷ past) = entries_of terms past ++ entries_by terms past done

-- the entries of a list of acts in order
unfoldable pub entries : TermsView → List Act → List Entry
entries terms all = entries_of terms (history terms (reverse all))

-- the sum of the entries
abbrev pub sum_of : List Entry → ℤ
sum_of [] = pos 0
sum_of (first ∷ rest) = first.amount +ℤ sum_of rest
