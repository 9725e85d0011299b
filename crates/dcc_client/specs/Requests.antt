-- The request of a call, as a client of `http1` writes it.
use Rattle.std.specs.Prelude.{ℕ, List, [], ◌∷◌, ◌++◌, length, codes}
use Rattle.std.specs.Fmt.{decimal}
use Rattle.percent_encoding.specs.Percent.{percent_encode}
use Rattle.percent_encoding.specs.declared.ascii_set.TheConstants.{NON_ALPHANUMERIC}
use Rattle.http1.specs.declared.client.Client.{Client}
use Rattle.http1.specs.declared.conn.BodySize.{BodySize}
use Rattle.http1.specs.declared.conn.BodySize.TheVariants.{Empty, Known}
use Rattle.http1.specs.Client.{new_client, planned_request, after_request, writing, with_writing}
use Rattle.http1.specs.Conn.{after_data, data_text, finish_text}
use Rattle.dcc_act.specs.Subs.{SubView}
use Rattle.dcc_client.specs.declared.call.Call.{Call}
use Rattle.dcc_client.specs.declared.call.Call.TheVariants.{Account, Ledger, TopUp}
use Rattle.dcc_client.specs.declared.request.TheConstants.{LIMITS}

-- a subscriber as TYPE:DATA
abbrev pub name_of : SubView → List ℕ
name_of sub = decimal sub.kind ++ (codes ":" ++ sub.name)

-- the path of a page of a subscriber
abbrev pub path_of : SubView → (page : List ℕ) → List ℕ
path_of sub page = codes "/subscribers/" ++ (percent_encode NON_ALPHANUMERIC (name_of sub) ++ page)

-- what is asked for, and by which method
abbrev pub target_of : Call → List ℕ
target_of (Account sub) = path_of sub []
target_of (Ledger sub) = path_of sub (codes "/ledger")
target_of (TopUp sub ticket amount) = path_of sub (codes "/topups")

abbrev pub method_of : Call → List ℕ
method_of (Account sub) = codes "GET"
method_of (Ledger sub) = codes "GET"
method_of (TopUp sub ticket amount) = codes "POST"

-- the content of a top-up's request
abbrev pub ask_text : (ticket amount : ℕ) → List ℕ
ask_text ticket amount = codes "{\"ticket\":" ++ (decimal ticket ++ (codes ",\"amount\":" ++ (decimal amount ++ codes "}")))

-- the fields of a request: the connection is to end behind its response
abbrev pub fields_of : (host : List ℕ) → List (List ℕ × List ℕ)
fields_of host = (codes "host", host) ∷ (codes "connection", codes "close") ∷ []

abbrev pub fields_of_content : (host : List ℕ) → List (List ℕ × List ℕ)
fields_of_content host =
    (codes "host", host) ∷ (codes "connection", codes "close") ∷ (codes "content-type", codes "application/json") ∷ []

-- a connection on which nothing was sent
abbrev pub fresh : Client
fresh = new_client LIMITS

-- the octets of a request without content: its head, and its end
unfoldable pub get_text : (host target : List ℕ) → List ℕ
get_text host target =
    planned_request fresh (codes "GET") target Empty (fields_of host)
    ++ finish_text (writing (after_request fresh (codes "GET") Empty (fields_of host))) []

-- the connection behind the head of a request with this content; its head states the length of the content
abbrev pub headed : (host content : List ℕ) → Client
headed host content = after_request fresh (codes "POST") (Known (length content)) (fields_of_content host)

-- the octets of a request with content: its head, the content, and its end
unfoldable pub post_text : (host target content : List ℕ) → List ℕ
post_text host target content =
    planned_request fresh (codes "POST") target (Known (length content)) (fields_of_content host)
    ++ data_text (writing (headed host content)) content
    ++ finish_text (after_data (writing (headed host content)) (length content)) []

-- the octets of a call's request to a host
abbrev pub request_of : (host : List ℕ) → Call → List ℕ
request_of host (Account sub) = get_text host (target_of (Account sub))
request_of host (Ledger sub) = get_text host (target_of (Ledger sub))
request_of host (TopUp sub ticket amount) = post_text host (target_of (TopUp sub ticket amount)) (ask_text ticket amount)
