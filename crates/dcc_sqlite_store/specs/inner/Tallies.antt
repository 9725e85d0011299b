-- The tallies that records keep of subscribers.
use Rattle.std.specs.Prelude.{◌≡◌, ◌+◌, ◌<◌, ◌^◌, ◌⊎◌, ℤ, pos, ◌+ℤ◌, FitsSigned, List, [], ◌∷◌, length, unwrap_or}
use Rattle.std.specs.Int.{w64}
use Rattle.std.specs.Map.{lookup}
use Rattle.std.specs.Ordering.{is_eq}
use Rattle.dcc_tariff.specs.Terms.{TermsView}
use Rattle.dcc_act.specs.declared.sub.Sub.{Sub}
use Rattle.dcc_act.specs.declared.entry.Entry.{Entry}
use Rattle.dcc_model.specs.Outcomes.{funds}
use Rattle.dcc_store.specs.Books.{Held, sub_order}
use Rattle.dcc_sqlite_rows.specs.declared.tally.Tally.{Tally}

-- the tally of a subscriber without one: no acts, no funds
abbrev pub no_tally : Tally
no_tally = record { acts = 0; funds = pos 0 }

abbrev pub tally_in : List (Sub × Tally) → Sub → Tally
tally_in tallies sub = unwrap_or (lookup (λ key. is_eq (sub_order sub key)) tallies) no_tally

-- the tallies are the tallies of a book
abbrev pub AreTallies : TermsView → List (Sub × Tally) → Held → Type 0
AreTallies terms tallies held = (sub : Sub) → tally_in tallies sub ≡ record { acts = length (held sub); funds = funds terms (held sub) }

-- funds to which these amounts are added in order leave the range of 64 bits
abbrev pub Pass : ℤ → List Entry → Type 0
Pass funds [] = ⊥
Pass funds (entry ∷ entries) = (¬ FitsSigned w64 (funds +ℤ entry.amount)) ⊎ Pass (funds +ℤ entry.amount) entries

-- the tally after one act more with these entries is too great for a row
abbrev pub IsTooMuch : Tally → List Entry → Type 0
IsTooMuch tally entries = (¬ (tally.acts + 1 < 2 ^ 64)) ⊎ Pass tally.funds entries
