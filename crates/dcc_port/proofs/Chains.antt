-- The calls of a connection lead from port to port.
use Rattle.std.proofs.Common.{◌≡◌, ℕ, Bool, List, [], ◌∷◌, ◌∙◌, ap, subst}
use Rattle.http.specs.declared.request.Request.{Request}
use Rattle.http_server.specs.Exchange.{Call, Chain}
use Rattle.http_server.specs.declared.response.Response.{Response}
use Rattle.dcc_receipts.specs.declared.receipt.Receipt.{Receipt}
use Rattle.dcc_port.specs.Answers.{PortView, Serves}
use Rattle.dcc_store.specs.Books.{Held}
use Rattle.dcc_port.specs.Requests.{call_for}
use Rattle.dcc_port.specs.Servers.{Rules}

-- what is seen of an operator is a port, and its shards and its seat stay
pub serving_all : {O P N R C S : Type 0} (see : O → PortView C S) (port : O → P) (count_of : P → ℕ) (clock server seat : O → N)
    (is_stopped : R → Bool) (tells : C → ℕ → C → Type 0) (rules : Rules S) (opening : Held) (count : ℕ) (calls : List Call) (first last : O)
    → count_of (port first) ≡ count
    → Chain (λ old request response new. Serves is_stopped tells rules (count_of (port old)) opening (call_for request) (see old) response (see new)
    × (port new ≡ port old) × (clock new ≡ clock old) × (server new ≡ server old) × (seat new ≡ seat old)) first calls last
    → Chain (λ old request response new. Serves is_stopped tells rules count opening (call_for request) old response new) (see first) calls (see last)
    × (clock last ≡ clock first) × (server last ≡ server first) × (seat last ≡ seat first)
serving_all see port count_of clock server seat is_stopped tells rules opening count [] first last is h = (ap see h, ap clock h, ap server h, ap seat h)
serving_all see port count_of clock server seat is_stopped tells rules opening count (c ∷ calls) first last is h =
    let next = h.0 in
    let step = h.1 in
    let later = serving_all see port count_of clock server seat is_stopped tells rules opening count calls next last (ap count_of step.1 ∙ is) h.2 in (
      (see next, subst (λ (n : ℕ). Serves is_stopped tells rules n opening (call_for c.0) (see first) c.1 (see next)) is step.0, later.0),
      later.1 ∙ step.2,
      later.2 ∙ step.3,
      later.3 ∙ step.4,
    )

-- the same port, by its parts
pub to_port : {C S : Type 0} (A : PortView C S → Request (List ℕ) → Response → PortView C S → Type 0) (first : PortView C S) (calls : List Call)
    {clock clock' : C} {seat seat' : List Receipt} {server server' : S} → clock ≡ clock' → seat ≡ seat' → server ≡ server'
    → Chain A first calls (record { clock = clock; seat = seat; server = server })
    → Chain A first calls (record { clock = clock'; seat = seat'; server = server' })
to_port {C} {S} A first calls c s e h =
    subst (λ (last : PortView C S). Chain A first calls last) (λ i. record { clock = c i; seat = s i; server = e i }) h
