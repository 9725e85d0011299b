-- What is known of a credit-control message by its verdict.
use Rattle.std.specs.Prelude.{◌≡◌, ℕ, true, false, List, is_some}
use Rattle.dcc_model.specs.Keys.{request_key}
use Rattle.dcc_dispatch.specs.Dispatches.{IsAsked, IsSought, IsRefused, session_of_key}
use Rattle.dcc_dispatch.specs.Messages as messages
use Rattle.dcc_dispatch.specs.Messages.{MessageView}
use Rattle.dcc_dispatch.specs.Refusals.{is_refusal}
use Rattle.dcc_dispatch.specs.Settings.{Setting}
use Rattle.dcc_dispatch.specs.Verdicts.{verdict_of}
use Rattle.dcc_dispatch.specs.Sought.{is_report}
use Rattle.dcc_dispatch.specs.declared.decide.Dispatched.{Dispatched}
use Rattle.dcc_dispatch.specs.declared.decide.Dispatched.TheVariants.{Replied, Asked, Sought}
use Rattle.dcc_dispatch.specs.declared.verdict.Verdict.{Verdict}
use Rattle.dcc_dispatch.specs.declared.verdict.Verdict.TheVariants.{Asks, Seeks, Refused}

-- what is known of a message by its verdict: an act that it asks for is a request's, of the message's own session, and an update
-- or a termination if its subscriber is sought; its refusal is no busy answer
abbrev pub IsVerdict : MessageView → Verdict → Type 0
IsVerdict message (Asks sub act) = (messages.session message ≡ session_of_key act) × (is_some (request_key act.kind) ≡ true)
IsVerdict message (Seeks act) = (messages.session message ≡ session_of_key act) × (is_report act.kind ≡ true)
IsVerdict message (Refused octets) = is_refusal octets ≡ false

-- a credit-control request from a peer of this host is asked of its subscriber, or of the sought one, or refused; behind a refusal the
-- connection stays
abbrev pub IsCharged : Setting → ℕ → (host : List ℕ) → MessageView → Dispatched → Type 0
IsCharged setting moment host message (Asked asked) = IsAsked message (verdict_of setting moment host message) asked
IsCharged setting moment host message (Sought sought) = IsSought message (verdict_of setting moment host message) sought
IsCharged setting moment host message (Replied reply) =
    IsRefused setting.identity message (verdict_of setting moment host message) reply.octets × (reply.close ≡ false)
