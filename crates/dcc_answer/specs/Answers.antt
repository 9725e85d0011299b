-- The octets of answers (RFC 6733, section 6.2).
use Rattle.std.specs.Prelude.{◌≡◌, ℕ, true, bit_and, bit_or, List, [], ◌∷◌, ◌++◌, Option, option_map}
use Rattle.std.specs.List.{flat_map}
use Rattle.std.specs.Option.{option_to_list}
use Rattle.dcc_octets.specs.Names.{is_name}
use Rattle.dcc_avp.specs.Spelling.{AvpView, padded}
use Rattle.dcc_avp.specs.declared.codes.TheConstants.{SESSION_ID, RESULT_CODE, ORIGIN_HOST, ORIGIN_REALM}
use Rattle.dcc_message.specs.declared.command_flags.TheConstants.{PROXIABLE, ERROR}
use Rattle.dcc_message.specs.HeaderView.{HeaderView}
use Rattle.dcc_message.specs.Headers.{message}
use Rattle.dcc_message.specs.declared.identity.Identity.{Identity}
use Rattle.dcc_answer.specs.declared.protocol_error.TheConstants.{TOO_BUSY}
use Rattle.dcc_answer.specs.Avps.{sent, sent32}

-- what holds of every server's names
pub record IsServer (identity : Identity) : Type 0 where
  pub host : is_name identity.host ≡ true
  pub realm : is_name identity.realm ≡ true

-- an answer's header: that of its request, with these bits beside P
abbrev pub answer_header : HeaderView → ℕ → HeaderView
answer_header request bits = record request { flags = bit_or (bit_and request.flags PROXIABLE) bits }

-- the octets of an answer: these AVPs, and the request's proxies behind them, under its identifiers and its P bit
abbrev pub answer_with : HeaderView → ℕ → List AvpView → List ℕ → List ℕ
answer_with request bits avps proxies = message (answer_header request bits) (flat_map padded avps ++ proxies)

-- the AVPs of an answer that reports a protocol error (RFC 6733, section 7.2)
abbrev pub error_avps : Identity → ℕ → Option (List ℕ) → List AvpView
error_avps identity code session =
    option_to_list (option_map (sent SESSION_ID) session) ++
    sent32 RESULT_CODE code ∷ sent ORIGIN_HOST identity.host ∷ sent ORIGIN_REALM identity.realm ∷ []

-- that answer, with E set
unfoldable pub error_octets : Identity → ℕ → Option (List ℕ) → HeaderView → List ℕ → List ℕ
error_octets identity code session request proxies = answer_with request ERROR (error_avps identity code session) proxies

-- the busy answer (RFC 6733, section 7.1.3)
abbrev pub busy_octets : Identity → Option (List ℕ) → HeaderView → List ℕ → List ℕ
busy_octets identity session request proxies = error_octets identity TOO_BUSY session request proxies
