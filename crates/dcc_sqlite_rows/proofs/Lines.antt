-- Rows as lines, and whose they are.
use Rattle.std.proofs.Common.{◌≡◌, inl, inr, ℕ, ◌+◌, ◌-◌, ◌<◌, ◌≤◌, true, cond, All, List, [], ◌∷◌, ◌++◌, length, map, take, drop, get_or, Option, Some, None, MatchOption, sym, ap, subst, ◌∙◌, arith}
use Rattle.std.proofs.lemmas.Bool.{cases_Bool}
use Rattle.std.proofs.lemmas.List.{take_all, map-append}
use Rattle.std.proofs.lemmas.List.Elements.{All-more}
use Rattle.std.proofs.lemmas.Grind.{take_at_read}
use Rattle.sqlite.specs.declared.types.Value.TheVariants.{Blob}
use Rattle.sqlite.specs.Order.{Row, column}
use Rattle.dcc_act.specs.declared.sub.Sub.{Sub}
use Rattle.dcc_act.specs.Subs.{is_sub}
use Rattle.dcc_sqlite_rows.specs.declared.line.Line.{Line}
use Rattle.dcc_sqlite_rows.specs.Rows.{sub_octets}
use Rattle.dcc_sqlite_rows.specs.declared.version.Version.{Version}
use Rattle.dcc_sqlite_rows.specs.Stored.{IsOfSub}
use Rattle.dcc_sqlite_rows.specs.inner.Versions.{row_of}

abbrev sub_by : ℕ → List ℕ → Option Sub
sub_by kind name = cond (is_sub kind name) (Some (record { kind = kind; name = name })) None

found_in : (row : Row) (kind : ℕ) (name : List ℕ) → column row 0 ≡ Blob (kind ∷ name) → MatchOption (sub_by kind name) (¬ IsOfSub row) (λ sub. column row 0 ≡ Blob (sub_octets sub))
found_in row kind name is = elim (cases_Bool (is_sub kind name)) [
  | inl valid ↦ rw valid is
  | inr other ↦ rw other (λ h.
      let octets : kind ∷ name ≡ sub_octets h.0 = let e = sym is ∙ h.2 in cc in
      let kinds : kind ≡ h.0.kind = cc in
      let names : name ≡ h.0.name = cc in
      let e : is_sub kind name ≡ true = rw (kinds, names) h.1 in
      absurd (let f = sym other ∙ e in cc))
]

pub sub_found : (row : Row) (octets : List ℕ) (result : Option Sub) → column row 0 ≡ Blob octets → 1 ≤ length octets
    → result ≡ sub_by (get_or octets 0 0) (take (length octets - 1) (drop 1 octets)) → MatchOption result (¬ IsOfSub row) (λ sub. column row 0 ≡ Blob (sub_octets sub))
sub_found row [] result is some e = absurd (omega (arith, some))
sub_found row (kind ∷ name) result is some e =
    let whole : take (length (kind ∷ name) - 1) name ≡ name = take_all (length (kind ∷ name) - 1) name (omega arith) in
    let it : result ≡ sub_by kind name = e ∙ ap (sub_by kind) whole in
    subst (λ r. MatchOption r (¬ IsOfSub row) (λ sub. column row 0 ≡ Blob (sub_octets sub))) (sym it) (found_in row kind name is)

pub all_more_at : {X : Type 0} (P : X → Type 0) (xs : List X) (i : ℕ) (x : X) → i < length xs → x ≡ get_or xs i x → P x → All P (take i xs) → All P (take (i + 1) xs)
all_more_at P xs i x below is p all = All-more P xs i x below all (subst P is p)

pub all_at_end : {X : Type 0} (P : X → Type 0) (xs : List X) (n : ℕ) → length xs ≤ n → All P (take n xs) → All P xs
all_at_end P xs n end all = subst (All P) (take_all n xs end) all

pub lines_more : (version : Version) (rows : List Row) (i : ℕ) (row : Row) (lines : List Line) (line : Line) → i < length rows → row ≡ get_or rows i row → take i rows ≡ map (row_of version) lines
    → row ≡ row_of version line → take (i + 1) rows ≡ map (row_of version) (lines ++ line ∷ [])
lines_more version rows i row lines line below is so_far says =
    (take_at_read rows i row below).1 ∙ ap (λ (r : Row). take i rows ++ r ∷ []) (sym is ∙ says) ∙ ap (λ (front : List Row). front ++ row_of version line ∷ []) so_far
    ∙ sym (map-append (row_of version) lines (line ∷ []))
