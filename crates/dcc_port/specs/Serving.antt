-- The calls of one connection.
use Rattle.std.specs.Prelude.{◌≡◌, ℕ, Bool, List, Option}
use Rattle.std.specs.Io.KnownBytes.{Appends, Consumes}
use Rattle.http_server.specs.Exchange.{Chain}
use Rattle.http_server.specs.History.{History, IsServed}
use Rattle.http_server.specs.declared.state.Config.{Config}
use Rattle.dcc_store.specs.Books.{Held}
use Rattle.dcc_port.specs.Answers.{PortView, Serves}
use Rattle.dcc_port.specs.Requests.{call_for}
use Rattle.dcc_port.specs.Servers.{Rules}

-- The history of a connection is all that was read of the reader and written to the writer. Its bytes are the requests of calls, and their
-- responses, in order. The calls lead, one after another, from the port as it was to the port as it is then: each call adds its own receipts alone to
-- the seat, and then the server does its part with the seat, before the next call.
pub record IsServing {R C S : Type 0} (is_stopped : R → Bool) (tells : C → ℕ → C → Type 0) (rules : Rules S) (opening : Held) (count : ℕ)
    (unread rest before after : Option (List ℕ)) (first last : PortView C S) (h : History) : Type 0 where
  pub read : Consumes unread rest h.received
  pub written : Appends before after h.sent
  pub config : Config
  pub most : config.max_body_len ≡ 1_048_576
  pub head : config.limits.max_head_len ≡ 16_384
  pub served : ∥ IsServed config h ∥₁
  pub calls : Chain (λ old request response new. Serves is_stopped tells rules count opening (call_for request) old response new) first h.calls last
