-- How a message is refused if memory is short.
use Rattle.std.specs.Prelude.{◌≡◌, ℕ, Bool, ◌||◌, ◌==◌, List, [], length, Option, ◌⊎◌}
use Rattle.dcc_message.specs.HeaderView.{HeaderView}
use Rattle.dcc_message.specs.declared.identity.Identity.{Identity}
use Rattle.dcc_answer.specs.Answers.{busy_octets}
use Rattle.dcc_answer.specs.Results.{is_busy}
use Rattle.dcc_dispatch.specs.Messages as messages
use Rattle.dcc_dispatch.specs.Messages.{MessageView}

-- a message is refused by the busy answer or by nothing
unfoldable pub is_refusal : List ℕ → Bool
is_refusal octets = (length octets == 0) || is_busy octets

-- the octets of the busy answer to a message
abbrev pub busy_to : Identity → MessageView → List ℕ
busy_to identity message = busy_octets identity (messages.session message) message.header (messages.proxies message)

-- the busy answer under a header, with a session and proxies, or nothing
abbrev pub IsBusyOrNothingUnder : Identity → Option (List ℕ) → HeaderView → (proxies octets : List ℕ) → Type 0
IsBusyOrNothingUnder identity session header proxies octets = (octets ≡ busy_octets identity session header proxies) ⊎ (octets ≡ [])

-- the busy answer to a message, or nothing
abbrev pub IsBusyOrNothing : Identity → MessageView → List ℕ → Type 0
IsBusyOrNothing identity message octets =
    IsBusyOrNothingUnder identity (messages.session message) message.header (messages.proxies message) octets
