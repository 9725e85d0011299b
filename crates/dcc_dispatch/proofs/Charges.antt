-- What a credit-control request comes to.
use Rattle.std.proofs.Common.{◌≡◌, ℕ, true, List, [], ap, ◌∙◌, inr}
use Rattle.dcc_message.specs.declared.identity.Identity.{Identity}
use Rattle.dcc_dispatch.specs.Dispatches.{IsRefused}
use Rattle.dcc_dispatch.specs.Messages.{MessageView}
use Rattle.dcc_dispatch.specs.Refusals.{is_refusal, IsBusyOrNothing}
use Rattle.dcc_dispatch.specs.declared.verdict.Verdict.{Verdict}
use Rattle.dcc_dispatch.proofs.Refusals.{nothing_is_one}

-- busy or nothing
pub turned_away : (identity : Identity) (message : MessageView) (verdict : Verdict) (octets : List ℕ) → is_refusal octets ≡ true → IsBusyOrNothing identity message octets
    → IsRefused identity message verdict octets
turned_away identity message verdict octets refuses busy = rw refuses busy

-- nothing
pub passed_over : (identity : Identity) (message : MessageView) (verdict : Verdict) (octets : List ℕ) → octets ≡ [] → IsRefused identity message verdict octets
passed_over identity message verdict octets none = turned_away identity message verdict octets (ap is_refusal none ∙ nothing_is_one) (inr none)
