-- A head and its body are a response.
use Rattle.std.proofs.Common.{◌≡◌, ◌∙◌, ◌-◌, ℕ, Bool, true, false, cond, List, drop, take, length, length-drop, arith, refl, sym, ap, subst}
use Rattle.std.proofs.lemmas.List.{take_all}
use Rattle.httparse.specs.Grammar.{ResponseHead, status_code}
use Rattle.http1.specs.declared.client.Client.{Client}
use Rattle.http1.specs.declared.conn.Limits.{Limits}
use Rattle.http1.specs.declared.conn.Reading.TheVariants as Reads
use Rattle.http1.specs.declared.decode.Decoder.{Decoder}
use Rattle.http1.specs.declared.framing.Framing.{Framing}
use Rattle.http1.specs.declared.framing.MethodKind.{MethodKind}
use Rattle.http1.specs.Body.{Body, body_of}
use Rattle.http1.specs.Client.{TakesHead, upgraded_client, reading_body, after_head}
use Rattle.http1.specs.Decoder.{Completes, decoder_for}
use Rattle.http1.specs.Message.{known_of, AcceptsResponse, ReadsResponseMessage}
use Rattle.http1.proofs.OneParse.{body_from_completes}
use Rattle.dcc_client.specs.declared.request.TheConstants.{LIMITS}
use Rattle.dcc_client.specs.inner.Reading.{Heads, IsBody, IsReply, IsSent}

-- behind a head, a body is read by the decoder of its framing
decoder_behind : (c : Client) (h : ResponseHead) (framing : Framing) (d : Decoder) (switching interim : Bool) → c.reading ≡ Reads.Head
    → (cond switching (upgraded_client c) (cond interim c (reading_body c h.minor (known_of h.fields) framing))).reading ≡ Reads.Body d
    → decoder_for c.limits framing ≡ d
decoder_behind c h framing d true interim at is = cc
decoder_behind c h framing d false true at is = cc
decoder_behind c h framing d false false at is = cc

pub reply_from : (method : MethodKind) (old new : Client) (octets : List ℕ) (len status : ℕ) (body : List ℕ) → IsSent method old
    → Heads old new octets len status → IsBody new (drop len octets) body → IsReply method octets status body
reply_from method old new octets len status body sent heads whole =
    let takes = heads.2 in
    let at : (after_head old takes.head takes.framing).reading ≡ Reads.Body whole.0 = sym (ap (λ (c : Client). c.reading) takes.next) ∙ whole.3 in
    let decoder = decoder_behind old takes.head takes.framing whole.0 _ _ sent.reading_is at in
    let completes = subst (λ (d : Decoder). Completes d (drop len octets) (body_of body whole.1) whole.2) (sym decoder) whole.4 in
    let reads = body_from_completes old.limits takes.framing (drop len octets) (body_of body whole.1) whole.2 completes in
    let message : ReadsResponseMessage old.limits old.method octets (record { head = takes.head; body = body_of body whole.1 }) whole.2 = record {
      framing = takes.framing;
      after_head = drop len octets;
      head = takes.accepts;
      body = reads;
    } in (
      record { head = takes.head; body = body_of body whole.1 },
      whole.2,
      subst (λ (m : MethodKind). ReadsResponseMessage LIMITS m octets (record { head = takes.head; body = body_of body whole.1 }) whole.2) sent.method_is
          (subst (λ (limits : Limits). ReadsResponseMessage limits old.method octets (record { head = takes.head; body = body_of body whole.1 }) whole.2) sent.limits_are message),
      sym takes.covered.code ∙ heads.3,
      refl,
    )

-- a slice up to the end
pub rest_of : (xs : List ℕ) (n : ℕ) → take (length xs - n) (drop n xs) ≡ drop n xs
rest_of xs n = take_all (length xs - n) (drop n xs) (omega (arith, length-drop n xs))
