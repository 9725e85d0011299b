-- A line is its columns, and the ledger its lines.
use Rattle.std.proofs.Common.{◌≡◌, ℕ, suc, ◌+◌, ◌<◌, ◌≤◌, List, [], ◌∷◌, ◌++◌, length, take, drop, get_or, codes, refl, sym, ap, ◌∙◌}
use Rattle.std.proofs.Common.{arith, ℤ, ◌+ℤ◌, append_assoc, add-one}
use Rattle.std.proofs.lemmas.List.{append-nil, take_more, drop_all}
use Rattle.std.proofs.Math.Seq.{drop-cons}
use Rattle.std.specs.Fmt.{decimal, signed_decimal}
use Rattle.jiff_core.proofs.SignedLemmas.{signed_arith}
use Rattle.dcc_act.specs.declared.entry.Entry.{Entry}
use Rattle.dcc_ledger.specs.Columns.{padded_left, padded_right, with_sign}
use Rattle.dcc_ledger.specs.Moments.{moment_text}
use Rattle.dcc_ledger.specs.Ledger.{word_of, group_text, name_text, entry_line, sum_of, lines_after}

-- a text to which the columns of an entry are appended
pub columns : (entry : Entry) (funds : ℤ) (old a b c d : List ℕ)
    → a ≡ old ++ (padded_left 8 (decimal entry.place) ++ codes " " ++ moment_text entry.moment ++ codes " "
    ++ padded_right 6 (word_of entry.kind) ++ codes " ")
    → b ≡ a ++ (padded_left 10 (group_text entry.group) ++ codes " ")
    → c ≡ b ++ (padded_left 13 (decimal entry.units) ++ codes " " ++ padded_left 20 (with_sign entry.amount) ++ codes " "
    ++ padded_left 20 (signed_decimal funds) ++ codes " ")
    → d ≡ c ++ name_text entry.name → d ++ codes "\n" ≡ old ++ entry_line entry funds
unfolding entry_line
columns entry funds old a b c d first second third fourth = rw (fourth, third, second, first) (simp append_assoc)

grown : (entries : List Entry) (i : ℕ) (entry : Entry) → i < length entries → entry ≡ get_or entries i entry
    → take (i + 1) entries ≡ take i entries ++ entry ∷ []
grown entries i entry within is = take_more entries i entry within ∙ ap (λ (last : Entry). take i entries ++ last ∷ []) (sym is)

dropped : (entries : List Entry) (i : ℕ) (entry : Entry) → i < length entries → entry ≡ get_or entries i entry
    → drop i entries ≡ entry ∷ drop (i + 1) entries
dropped entries i entry within is =
    drop-cons entries i entry within ∙ rw add-one (ap (λ (first : Entry). first ∷ drop (suc i) entries) (sym is))

-- the line of the entry at i, and those of the later ones
pub line_step : (entries : List Entry) (i : ℕ) (entry : Entry) (old new all : List ℕ) → i < length entries → entry ≡ get_or entries i entry
    → old ++ lines_after (take i entries) (drop i entries) ≡ all
    → new ≡ old ++ entry_line entry (sum_of (take (i + 1) entries))
    → new ++ lines_after (take (i + 1) entries) (drop (i + 1) entries) ≡ all
unfolding lines_after
line_step entries i entry old new all within is so_far line =
    let own = entry_line entry (sum_of (take (i + 1) entries)) in
    let later = lines_after (take (i + 1) entries) (drop (i + 1) entries) in
    let here : lines_after (take i entries) (drop i entries) ≡ own ++ later =
    rw (dropped entries i entry within is) (rw (grown entries i entry within is) refl) in
    ap (λ (text : List ℕ). text ++ later) line ∙ append_assoc old own later ∙ ap (λ (lines : List ℕ). old ++ lines) (sym here) ∙ so_far

pub last_line : (entries : List Entry) (i : ℕ) (text all : List ℕ) → length entries ≤ i
    → text ++ lines_after (take i entries) (drop i entries) ≡ all → text ≡ all
unfolding lines_after
last_line entries i text all past so_far = sym (append-nil text) ∙ rw (drop_all i entries past) at so_far

sum_of-snoc : (entries : List Entry) (entry : Entry) → sum_of (entries ++ entry ∷ []) ≡ sum_of entries +ℤ entry.amount
sum_of-snoc [] entry = omega (arith, signed_arith)
sum_of-snoc (first ∷ entries) entry = omega (arith, signed_arith, sum_of-snoc entries entry)

-- the sum of one more entry
pub sum_of-more : (entries : List Entry) (i : ℕ) (entry : Entry) → i < length entries → entry ≡ get_or entries i entry
    → sum_of (take (i + 1) entries) ≡ sum_of (take i entries) +ℤ entry.amount
sum_of-more entries i entry within is = rw (grown entries i entry within is) (sum_of-snoc (take i entries) entry)
