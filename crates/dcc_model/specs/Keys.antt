-- The keys of the acts of one subscriber.
use Rattle.std.specs.Prelude.{ℕ, Bool, true, false, ◌&&◌, ◌||◌, ◌==◌, bytes_eq, Option, Some, None}
use Rattle.dcc_act.specs.declared.act.Kind.{Kind}
use Rattle.dcc_act.specs.declared.act.Kind.TheVariants.{TopUp, Initial, Update, Termination, Event, Expiry}
use Rattle.dcc_act.specs.declared.request_key.RequestKey.{RequestKey}

-- a request has the key of its session and number (RFC 8506, section 8.2); a top-up and an expiry have no key of a request
abbrev pub request_key : Kind → Option RequestKey
request_key (TopUp top_up) = None
request_key (Initial request limit host) = Some request.key
request_key (Update request) = Some request.key
request_key (Termination request) = Some request.key
request_key (Event event) = Some event.key
request_key Expiry = None

-- a top-up has a ticket, and no other act has
abbrev pub ticket : Kind → Option ℕ
ticket (TopUp top_up) = Some top_up.ticket
ticket (Initial request limit host) = None
ticket (Update request) = None
ticket (Termination request) = None
ticket (Event event) = None
ticket Expiry = None

abbrev pub same_request : Option RequestKey → Option RequestKey → Bool
same_request (Some a) (Some b) = bytes_eq a.sid b.sid && (a.number == b.number)
same_request _ _ = false

abbrev pub same_ticket : Option ℕ → Option ℕ → Bool
same_ticket (Some a) (Some b) = a == b
same_ticket _ _ = false

-- two acts have one key: requests their session and number, top-ups their ticket; an expiry has no key
abbrev pub same_key : Kind → Kind → Bool
same_key a b = same_request (request_key a) (request_key b) || same_ticket (ticket a) (ticket b)

abbrev pub is_top_up : Kind → Bool
is_top_up (TopUp top_up) = true
is_top_up _ = false

abbrev pub is_expiry : Kind → Bool
is_expiry Expiry = true
is_expiry _ = false
