-- A connection within a response.
use Rattle.std.specs.Prelude.{◌≡◌, ℕ, Bool, false, List, slice_range, drop}
use Rattle.httparse.specs.Grammar.{Field, status_code}
use Rattle.httparse.specs.declared.spans.HeaderSpan.{HeaderSpan}
use Rattle.httparse.specs.declared.spans.ResponseSpans.{ResponseSpans}
use Rattle.httparse.specs.declared.spans.Span.{Span}
use Rattle.http1.specs.declared.client.Client.{Client}
use Rattle.http1.specs.declared.conn.Reading.TheVariants as Reads
use Rattle.http1.specs.declared.decode.Decoder.{Decoder}
use Rattle.http1.specs.declared.framing.MethodKind.{MethodKind}
use Rattle.http1.specs.Body.{Body, body_of}
use Rattle.http1.specs.Client.{TakesHead}
use Rattle.http1.specs.Conn.{awaits_head}
use Rattle.http1.specs.Decoder.{Completes, with_front}
use Rattle.http1.specs.Message.{Response, ReadsResponseMessage}
use Rattle.dcc_client.specs.declared.reply.Reply.{Reply}
use Rattle.dcc_client.specs.declared.request.TheConstants.{LIMITS}

-- a request by this method was sent whole, and nothing of its response was read
pub record IsSent (method : MethodKind) (c : Client) : Type 0 where
  pub limits_are : c.limits ≡ LIMITS
  pub reading_is : c.reading ≡ Reads.Head
  pub method_is : c.method ≡ method
  pub sent : awaits_head c.writing ≡ false

-- the octets begin with a head of this length and this status, and the connection is behind it
abbrev pub Heads : (old new : Client) → List ℕ → (len status : ℕ) → Type 0
Heads old new octets len status =
    (spans : List HeaderSpan) × (r : ResponseSpans) × TakesHead old octets spans new len r × (r.code ≡ status)

-- the octets begin with a piece of the body, behind which the connection waits for the rest
abbrev pub IsPiece : (old new : Client) → List ℕ → Span → Type 0
IsPiece old new octets piece =
    (d : Decoder) × (next : Decoder) × (old.reading ≡ Reads.Body d) × (new.reading ≡ Reads.Body next)
    × ((body : Body) (rest : List ℕ) → Completes next (drop piece.end octets) body rest
    → Completes d octets (with_front (slice_range octets piece.start piece.end) body) rest)

-- the octets begin with these octets of the body, and with its end
abbrev pub IsBody : Client → List ℕ → List ℕ → Type 0
IsBody old octets body =
    (d : Decoder) × (trailers : List Field) × (rest : List ℕ) × (old.reading ≡ Reads.Body d) × Completes d octets (body_of body trailers) rest

-- octets of a body lead from one place in it to another
abbrev pub Leads : (old now : Client) → (octets left body : List ℕ) → Type 0
Leads old now octets left body =
    (d : Decoder) → now.reading ≡ Reads.Body d → (first : Decoder) × (old.reading ≡ Reads.Body first)
    × ((more : Body) (rest : List ℕ) → Completes d left more rest → Completes first octets (with_front body more) rest)

-- the octets begin with a response to a request by this method, with this status and this body
abbrev pub IsReply : MethodKind → List ℕ → (status : ℕ) → (body : List ℕ) → Type 0
IsReply method octets status body =
    (response : Response) × (rest : List ℕ) × ReadsResponseMessage LIMITS method octets response rest
    × (status_code response.head ≡ status) × (response.body.bytes ≡ body)
