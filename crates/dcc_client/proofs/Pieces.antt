-- A read within a body gives a piece of it, or its end.
use Rattle.std.proofs.Common.{◌≡◌, ◌∙◌, ℕ, Bool, true, false, List, [], ◌++◌, drop, slice_range, refl, sym, ap, subst, append_assoc}
use Rattle.std.proofs.lemmas.List.{append-nil}
use Rattle.httparse.specs.declared.spans.HeaderSpan.{HeaderSpan}
use Rattle.httparse.specs.declared.spans.ResponseSpans.{ResponseSpans}
use Rattle.httparse.specs.declared.spans.Span.{Span}
use Rattle.http1.specs.declared.client.Client.{Client}
use Rattle.http1.specs.declared.conn.Event.{Event}
use Rattle.http1.specs.declared.conn.Event.TheVariants.{Data, End}
use Rattle.http1.specs.declared.conn.Progress.{Progress}
use Rattle.http1.specs.declared.conn.Reading.{Reading}
use Rattle.http1.specs.declared.conn.Reading.TheVariants as Reads
use Rattle.http1.specs.declared.decode.Decoder.{Decoder}
use Rattle.http1.specs.Body.{Body, body_of}
use Rattle.http1.specs.Client.{ReadsHead, ReadsFirst, ReadsAt, after_piece}
use Rattle.http1.specs.Conn.{ReadsPiece}
use Rattle.http1.specs.Decoder.{Completes, with_front}
use Rattle.dcc_client.specs.inner.Reading.{IsBody, IsPiece, Leads}

module _ (old : Client) (input : List ℕ) (spans : List HeaderSpan) (new : Client) (read : Progress ResponseSpans) where
  no_data : (awaits : Bool) (s : Span) → ReadsFirst awaits old input spans new read → read.event ≡ Data s → ⊥
  no_data true s found is = let paused = ap (λ (p : Progress ResponseSpans). p.event) found.1 in cc
  no_data false s found is = subst (λ (e : Event ResponseSpans). ReadsHead old input spans new read.consumed e) is found

  no_end : (awaits : Bool) (count : ℕ) → ReadsFirst awaits old input spans new read → read.event ≡ End count → ⊥
  no_end true count found is = let paused = ap (λ (p : Progress ResponseSpans). p.event) found.1 in cc
  no_end false count found is = subst (λ (e : Event ResponseSpans). ReadsHead old input spans new read.consumed e) is found

  pub piece_at : (r : Reading) (s : Span) → old.reading ≡ r → ReadsAt r old input spans new read → read.event ≡ Data s → IsPiece old new input s
  piece_at Reads.Head s at found is = absurd (no_data _ s found is)
  piece_at (Reads.Body d) s at found is =
      let piece = subst (λ (e : Event ResponseSpans). ReadsPiece d input spans found.0 read.consumed e) is found.1 in
      let behind : new ≡ after_piece old (Reads.Body piece.0) = found.2 ∙ ap (after_piece old) piece.1 in (
        d,
        piece.0,
        at,
        ap (λ (c : Client). c.reading) behind,
        λ body rest h.
            let back = piece.4.back [] body rest in
            subst (λ (l : List ℕ). Completes d l (with_front (slice_range input s.start s.end) body) rest) (append-nil input) (back (subst (λ (l : List ℕ). Completes piece.0 l body rest) (sym (append-nil (drop s.end input))) h)),
      )
  piece_at Reads.Done s at found is = let closed = ap (λ (p : Progress ResponseSpans). p.event) found.0 in cc
  piece_at Reads.Upgraded s at found is = let upgraded = ap (λ (p : Progress ResponseSpans). p.event) found.0 in cc
  piece_at Reads.Closed s at found is = let closed = ap (λ (p : Progress ResponseSpans). p.event) found.0 in cc
  piece_at (Reads.Failed e) s at found is = absurd found

  pub end_at : (r : Reading) (count : ℕ) → old.reading ≡ r → ReadsAt r old input spans new read → read.event ≡ End count → IsBody old input []
  end_at Reads.Head count at found is = absurd (no_end _ count found is)
  end_at (Reads.Body d) count at found is =
      let end = subst (λ (e : Event ResponseSpans). ReadsPiece d input spans found.0 read.consumed e) is found.1 in
      (d, end.1.trailers, drop read.consumed input ++ [], at, subst (λ (l : List ℕ). Completes d l (body_of [] end.1.trailers) (drop read.consumed input ++ [])) (append-nil input) (end.1.completes []))
  end_at Reads.Done count at found is = let closed = ap (λ (p : Progress ResponseSpans). p.event) found.0 in cc
  end_at Reads.Upgraded count at found is = let upgraded = ap (λ (p : Progress ResponseSpans). p.event) found.0 in cc
  end_at Reads.Closed count at found is = let closed = ap (λ (p : Progress ResponseSpans). p.event) found.0 in cc
  end_at (Reads.Failed e) count at found is = absurd found

same_decoder : (d next : Decoder) → Reads.Body next ≡ Reads.Body d → next ≡ d
same_decoder d next is = cc

-- a piece leads on
pub leads_on : (start old new : Client) (octets left body : List ℕ) (s : Span) → Leads start old octets left body → IsPiece old new left s
    → Leads start new octets (drop s.end left) (body ++ slice_range left s.start s.end)
leads_on start old new octets left body s leads piece = λ d is.
    let first = leads piece.0 piece.2 in
    let same : piece.1 ≡ d = same_decoder d piece.1 (sym piece.3 ∙ is) in (
      first.0,
      first.1,
      λ more rest h.
          let whole = first.2 (with_front (slice_range left s.start s.end) more) rest
          (piece.4 more rest (subst (λ (x : Decoder). Completes x (drop s.end left) more rest) (sym same) h)) in
          rw append_assoc whole,
    )

-- at the end the whole body is there
pub ends : (start old : Client) (octets left body : List ℕ) → Leads start old octets left body → IsBody old left [] → IsBody start octets body
ends start old octets left body leads end =
    let first = leads end.0 end.3 in
    let whole = first.2 (body_of [] end.1) end.2 end.4 in
    (first.0, end.1, end.2, first.1, rw append-nil at whole)
