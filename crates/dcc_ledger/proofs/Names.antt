-- Names that look alike are one.
use Rattle.std.proofs.Common.{◌≡◌, ◌⊎◌, inl, inr, ℕ, Bool, true, false, ◌&&◌, if◌then◌else◌, List, ◌++◌, codes, get_or, arith, refl, sym, ap, ◌∙◌}
use Rattle.std.proofs.lemmas.Fmt.{decimal_injective}
use Rattle.std.specs.Fmt.{decimal}
use Rattle.hex.specs.Hex.{IsBytes, encode_lower, decode_of}
use Rattle.hex.proofs.HexLemmas.{decode_of-encode_lower}
use Rattle.dcc_octets.specs.Names.{are_visible}
use Rattle.dcc_act.specs.declared.entry.EntryName.TheVariants.{Ticket, Session}
use Rattle.dcc_ledger.specs.Laws.{NamesAreApart}
use Rattle.dcc_ledger.specs.Ledger.{is_shown, session_text}

chosen : (test : Bool) (x y : List ℕ) → ((test ≡ true) × ((if test then x else y) ≡ x)) ⊎ ((if test then x else y) ≡ y)
chosen true x y = inl (refl, refl)
chosen false x y = inr refl

-- how a session is shown
shown : (sid : List ℕ) → ((is_shown sid ≡ true) × (session_text sid ≡ sid)) ⊎ (session_text sid ≡ codes "hex:" ++ encode_lower sid)
shown sid = chosen (is_shown sid) sid (codes "hex:" ++ encode_lower sid)

and_false : (test : Bool) → test && false ≡ true → ⊥
and_false true h = cc
and_false false h = cc

-- what begins as hex digits do isn't shown as it is
never_hex : (digits : List ℕ) → is_shown (codes "hex:" ++ digits) ≡ true → ⊥
never_hex digits h = and_false (are_visible (codes "hex:" ++ digits)) h

-- nor what has a blank
never_ticket : (digits : List ℕ) → is_shown (codes "ticket " ++ digits) ≡ true → ⊥
never_ticket digits h = cc

ticket_or_session : (ticket : ℕ) (sid : List ℕ) → codes "ticket " ++ decimal ticket ≡ session_text sid → ⊥
ticket_or_session ticket sid e = elim (shown sid) [
  | inl as_it_is ↦ never_ticket (decimal ticket) (rw (sym (e ∙ as_it_is.1)) at as_it_is.0)
  | inr in_digits ↦ (let first = ap (λ (text : List ℕ). get_or text 0 0) (e ∙ in_digits) in omega arith)
]

sessions : (a b : List ℕ) → IsBytes a → IsBytes b → session_text a ≡ session_text b → a ≡ b
sessions a b first second e = elim (shown a) [
  | inl one ↦ elim (shown b) [
    | inl other ↦ sym one.1 ∙ e ∙ other.1
    | inr other ↦ absurd (never_hex (encode_lower b) (rw (sym one.1 ∙ e ∙ other) at one.0))
  ]
  | inr one ↦ elim (shown b) [
    | inl other ↦ absurd (never_hex (encode_lower a) (rw (sym other.1 ∙ sym e ∙ one) at other.0))
    | inr other ↦
        let digits = sym one ∙ e ∙ other in
        let same : encode_lower a ≡ encode_lower b = cc in
        let read = sym (decode_of-encode_lower a first) ∙ ap decode_of same ∙ decode_of-encode_lower b second in
        cc
  ]
]

pub names_apart : NamesAreApart
names_apart (Ticket a) (Ticket b) first second e =
    let same : decimal a ≡ decimal b = cc in
    ap Ticket (decimal_injective a b first second same)
names_apart (Ticket a) (Session b) first second e = absurd (ticket_or_session a b e)
names_apart (Session a) (Ticket b) first second e = absurd (ticket_or_session b a (sym e))
names_apart (Session a) (Session b) first second e = ap Session (sessions a b first second e)
