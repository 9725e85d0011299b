use Rattle.std.proofs.Common.{ℕ, ap, ◌∙◌}
use Rattle.dcc_act.specs.TopUps.{TopUpView}
use Rattle.dcc_act.specs.declared.one_time_event.OneTimeEvent.{OneTimeEvent}
use Rattle.dcc_act.specs.declared.request_key.RequestKey.{RequestKey}
use Rattle.dcc_model.specs.Keys.{request_key}
use Rattle.dcc_account.specs.inner.Indexed.{place_by, is_request, is_top_up_of}
use Rattle.dcc_account.proofs.Lookbacks.{key_of, place_of_request, place_of_ticket, place_of_expiry}
use Rattle.dcc_account.proofs.indexes.Indexes.place.Goals as goal

pub returns-in-TopUp : goal.returns-in-TopUp
returns-in-TopUp c past is =
    let number = ap (λ (t : TopUpView). t.ticket) c.top_up.view_is in
    c.place_of_top_up.ensures past is ∙ ap (λ (n : ℕ). place_by (is_top_up_of n) past) number ∙ place_of_ticket past c.args.kind.now c.in-TopUp.top_up c.in-TopUp.is

pub returns-in-Event : goal.returns-in-Event
returns-in-Event c past is =
    let key = ap (λ (e : OneTimeEvent). e.key) c.event.view_is in
    c.place_of_request.ensures past is ∙ ap (λ (k : RequestKey). place_by (is_request k) past) key ∙ place_of_request past c.args.kind.now c.in-Event.event.key (ap request_key c.in-Event.is)

pub returns-in-Expiry : goal.returns-in-Expiry
returns-in-Expiry c past is = place_of_expiry past c.args.kind.now c.in-Expiry.is

pub returns-in-Initial : goal.returns-in-Initial
returns-in-Initial c past is =
    c.place_of_request-in-Initial.ensures past is ∙ place_of_request past c.args.kind.now c.in-Initial.request.key (key_of c.args.kind.now c.in-Initial.request c.in-Initial.is)
