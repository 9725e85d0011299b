-- The verdict on a credit-control message (RFC 8506, section 3).
use Rattle.std.specs.Prelude.{ℕ, List, Option, Some, None, Result, Ok, Err}
use Rattle.dcc_avp.specs.Spelling.{AvpView}
use Rattle.dcc_avp.specs.Reading.{FaultView}
use Rattle.dcc_message.specs.HeaderView.{HeaderView}
use Rattle.dcc_message.specs.declared.identity.Identity.{Identity}
use Rattle.dcc_act.specs.declared.act.Act.{Act}
use Rattle.dcc_act.specs.declared.sub.Sub.{Sub}
use Rattle.dcc_request.specs.Refusals.{Refusal}
use Rattle.dcc_answer.specs.Proxies.{proxies_of}
use Rattle.dcc_ccr.specs.Requests.{RequestView, request_of}
use Rattle.dcc_credit.specs.Acts.{act_of}
use Rattle.dcc_credit.specs.Refusals.{taken_from, refusal_octets, unread_octets, unfound_octets}
use Rattle.dcc_dispatch.specs.Settings.{Setting}
use Rattle.dcc_dispatch.specs.Messages as messages
use Rattle.dcc_dispatch.specs.Messages.{MessageView}
use Rattle.dcc_dispatch.specs.declared.verdict.Verdict.{Verdict}
use Rattle.dcc_dispatch.specs.declared.verdict.Verdict.TheVariants.{Asks, Seeks, Refused}

-- the account that is asked for an act: that of the named subscriber, or else that of the opener of the act's session
abbrev pub asked_of : Option Sub → Act → Verdict
asked_of (Some sub) act = Asks sub act
asked_of None act = Seeks act

-- a request from a peer of this host asks an account for its act, or it is refused for a fault of its list
abbrev pub judged : Setting → ℕ → (host : List ℕ) → HeaderView → List AvpView → Result RequestView Refusal → Verdict
judged setting moment host header avps (Ok request) = asked_of request.sub (act_of setting.plan host request moment)
judged setting moment host header avps (Err refusal) =
    Refused (refusal_octets setting.identity header (taken_from avps) (proxies_of avps) refusal)

-- the verdict on a list, or the refusal of its fault
abbrev pub judged_list : Setting → ℕ → (host : List ℕ) → HeaderView → Result (List AvpView) FaultView → Verdict
judged_list setting moment host header (Ok avps) = judged setting moment host header avps (request_of avps)
judged_list setting moment host header (Err fault) = Refused (unread_octets setting.identity header fault)

unfoldable pub verdict_of : Setting → ℕ → (host : List ℕ) → MessageView → Verdict
verdict_of setting moment host message = judged_list setting moment host message.header message.list

-- the found subscriber is asked; if nobody was found, the message lacks its Subscription-Id
abbrev pub found_or_refused : Identity → MessageView → Act → Option Sub → Verdict
found_or_refused identity message act (Some sub) = Asks sub act
found_or_refused identity message act None = Refused (unfound_octets identity message.header act (messages.proxies message))

-- the verdict once each sought subscriber was looked for
abbrev pub settled : Identity → MessageView → (Act → Option Sub) → Verdict → Verdict
settled identity message find (Asks sub act) = Asks sub act
settled identity message find (Seeks act) = found_or_refused identity message act (find act)
settled identity message find (Refused octets) = Refused octets
