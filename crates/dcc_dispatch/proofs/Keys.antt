-- The key of the act that a request asks for.
use Rattle.std.proofs.Common.{◌≡◌, ℕ, true, List, Option, Some, None, refl}
use Rattle.dcc_act.specs.Subs.{SubView}
use Rattle.dcc_tariff.specs.Plans.{PlanView}
use Rattle.dcc_act.specs.declared.act.Kind.{Kind}
use Rattle.dcc_ccr.specs.Requests.{RequestView}
use Rattle.dcc_ccr.specs.declared.request_type.RequestType.{RequestType}
use Rattle.dcc_ccr.specs.declared.request_type.RequestType.TheVariants.{Initial, Update, Termination, Event}
use Rattle.dcc_ccr.specs.Types as types
use Rattle.dcc_credit.specs.Acts.{act_of, key_of, kind_of}
use Rattle.dcc_model.specs.Keys.{request_key}
use Rattle.dcc_dispatch.specs.Messages as messages
use Rattle.dcc_dispatch.specs.Messages.{MessageView}
use Rattle.dcc_dispatch.specs.Verdicts.{asked_of}
use Rattle.dcc_dispatch.specs.Sought.{is_report}
use Rattle.dcc_dispatch.specs.inner.Known.{IsVerdict}

-- what a request asks for has the request's key, whatever its type
key_is : (plan : PlanView) (host : List ℕ) (moment : ℕ) (request : RequestView) (type : RequestType) → request_key (kind_of plan host moment request type) ≡ Some (key_of request)
key_is plan host moment request Initial = refl
key_is plan host moment request Update = refl
key_is plan host moment request Termination = refl
key_is plan host moment request (Event action) = refl

-- and what an update or a termination asks for is one's
report_is : (plan : PlanView) (host : List ℕ) (moment : ℕ) (request : RequestView) (type : RequestType) → types.is_report type ≡ true → is_report (kind_of plan host moment request type) ≡ true
report_is plan host moment request Initial is = absurd cc
report_is plan host moment request Update is = refl
report_is plan host moment request Termination is = refl
report_is plan host moment request (Event action) is = absurd cc

known_with : (message : MessageView) (request : RequestView) (sub : Option SubView) (moment : ℕ) (k : Kind) → messages.session message ≡ Some request.session
    → request_key k ≡ Some (key_of request) → (sub ≡ None → is_report k ≡ true) → IsVerdict message (asked_of sub (record { moment = moment; kind = k }))
known_with message request (Some sub) moment k session key report = rw key (session, refl)
known_with message request None moment k session key report = (rw key session, report refl)

-- what is known of the verdict on a request that was read
pub known_of : (plan : PlanView) (host : List ℕ) (moment : ℕ) (message : MessageView) (request : RequestView) → messages.session message ≡ Some request.session
    → (request.sub ≡ None → types.is_report request.type ≡ true) → IsVerdict message (asked_of request.sub (act_of plan host request moment))
unfolding act_of
known_of plan host moment message request session named =
    known_with message request request.sub moment (kind_of plan host moment request request.type) session (key_is plan host moment request request.type)
    (λ none. report_is plan host moment request request.type (named none))
