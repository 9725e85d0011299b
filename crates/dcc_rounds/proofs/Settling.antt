-- What a message comes to once nobody is sought any more.
use Rattle.std.proofs.Common.{◌≡◌, ℕ, Bool, true, List, Option, Some, refl, sym, ap, subst, ◌∙◌}
use Rattle.std.specs.Prelude.{is_some}
use Rattle.dcc_act.specs.declared.act.Act.{Act}
use Rattle.dcc_act.specs.declared.sub.Sub.{Sub}
use Rattle.dcc_base.specs.declared.peer.Peer.{Peer}
use Rattle.dcc_dispatch.specs.Dispatches.{IfAsked, IfSought, IfCharging, IsAsked, IsSought, IsSettled, session_of_key}
use Rattle.dcc_dispatch.specs.Messages.{MessageView, message_view, host_name}
use Rattle.dcc_dispatch.specs.Settings.{Setting}
use Rattle.dcc_dispatch.specs.Sought.{SoughtView}
use Rattle.dcc_dispatch.specs.Verdicts.{settled, found_or_refused}
use Rattle.dcc_dispatch.specs.declared.decide.Dispatched.{Dispatched}
use Rattle.dcc_dispatch.specs.declared.decide.Dispatched.TheVariants as words
use Rattle.dcc_dispatch.specs.declared.settled.Settled.{Settled}
use Rattle.dcc_dispatch.specs.declared.settled.Settled.TheVariants.{Replied, Asked}
use Rattle.dcc_dispatch.specs.declared.verdict.Verdict.{Verdict}
use Rattle.dcc_dispatch.specs.declared.verdict.Verdict.TheVariants as verdicts
use Rattle.dcc_message.specs.HeaderView.{HeaderView}
use Rattle.dcc_message.specs.declared.identity.Identity.{Identity}
use Rattle.dcc_model.specs.Keys.{request_key}
use Rattle.dcc_openers.specs.Found.{one_of}
use Rattle.dcc_openers.specs.declared.found.Found.{Found}
use Rattle.dcc_running.specs.Calls.{IsResolved}
use Rattle.dcc_rounds.specs.Handing.{IfSettled, IsSettledBy}

-- what holds of the header of what is asked or sought, by what holds of it already
pub charging_more : (P Q : HeaderView → Type 0) (word : Dispatched) → ((header : HeaderView) → P header → Q header) → IfCharging word P → IfCharging word Q
charging_more P Q (words.Replied reply) more h = tt
charging_more P Q (words.Asked asked) more h = more asked.header h
charging_more P Q (words.Sought sought) more h = more sought.header h

-- a request that was sought is settled by who is found
pub sought_by : (identity : Identity) (message : MessageView) (verdict : Verdict) (sought : SoughtView) (who : Found) (found : Option Sub) (result : Settled)
    → ((m : MessageView) (v : Verdict) (find : Act → Option Sub) → IsSought m v sought → find sought.act ≡ found → IsSettled identity m (settled identity m find v) result)
    → found ≡ one_of who → IsSought message verdict sought → IsSettled identity message (found_or_refused identity message sought.act (one_of who)) result
sought_by identity message verdict sought who found result settles found_is is =
    let seeks : IsSought message (verdicts.Seeks sought.act) sought = subst (λ (v : Verdict). IsSought message v sought) is.verdict_is is in
    settles message (verdicts.Seeks sought.act) (λ act. one_of who) seeks (sym found_is)

-- and what it then asks is a request
pub settled_request : (identity : Identity) (message : MessageView) (verdict : Verdict) (result : Settled) → IsSettled identity message verdict result
    → IfSettled result (λ asked. is_some (request_key asked.act.kind) ≡ true)
settled_request identity message verdict (Replied reply) is = tt
settled_request identity message verdict (Asked asked) is = is.request

-- from the host that the peer had before, which is the one that it has
pub settled_from : (setting : Setting) (count : ℕ) (message : List ℕ) (word : Dispatched) (result : Settled) (old new : Peer) → IfCharging word (λ header. new ≡ old)
    → IsSettledBy setting count (host_name new) message word result → IsSettledBy setting count (host_name old) message word result
settled_from setting count message (words.Replied reply) result old new same h = h
settled_from setting count message (words.Asked asked) result old new same h = h
settled_from setting count message (words.Sought sought) result old new same h =
    subst (λ (peer : Peer). IsSettledBy setting count (host_name peer) message (words.Sought sought) result) same h
