-- What a shard holds of a subscriber.
use Rattle.std.specs.Prelude.{◌≡◌, ℕ, pos, List, [], ◌∷◌, length, reverse, Option, Some, None}
use Rattle.dcc_tariff.specs.Terms.{TermsView}
use Rattle.dcc_act.specs.Subs.{SubView}
use Rattle.dcc_act.specs.declared.act.Act.{Act}
use Rattle.dcc_account.specs.Accounts.{reserved}
use Rattle.dcc_ledger.specs.Ledger.{ledger_text}
use Rattle.dcc_model.specs.Entries.{entries}
use Rattle.dcc_model.specs.Outcomes.{history, funds, free, overrun}
use Rattle.dcc_state.specs.OpenSessions.{AreOpen, SessionView}
use Rattle.dcc_port.specs.Accounts.{account_text}
use Rattle.dcc_port.specs.Sheets.{Sheet, sheet_of, unknown_sheet}
use Rattle.dcc_port.specs.declared.account.Money.{Money}
use Rattle.dcc_port.specs.declared.sheet.Kind.TheVariants.{Json, Plain}

-- the money by these acts
abbrev pub money_of : TermsView → List Act → Money
money_of terms acts = record {
  funds = funds terms acts;
  reserved = reserved terms acts;
  free = free terms acts;
  overrun = pos (overrun terms acts);
  acts = length acts;
}

-- the text of an account by these acts: its money, and the sessions that are open after them, each once and in any order
abbrev pub IsTextOf : TermsView → SubView → List Act → List ℕ → Type 0
IsTextOf terms sub acts text =
    (sessions : List SessionView) × AreOpen terms (history terms (reverse acts)) sessions × (text ≡ account_text sub (money_of terms acts) sessions)

-- the same, if there are any acts
abbrev pub IsFoundOf : TermsView → SubView → List Act → Option (List ℕ) → Type 0
IsFoundOf terms sub [] found = found ≡ None
IsFoundOf terms sub (act ∷ acts) None = ⊥
IsFoundOf terms sub (act ∷ acts) (Some text) = IsTextOf terms sub (act ∷ acts) text

abbrev pub account_found : Option (List ℕ) → Sheet
account_found None = unknown_sheet
account_found (Some text) = sheet_of Json 200 text

-- the ledger of these acts, if there are any
abbrev pub page_of : TermsView → SubView → List Act → Option (List ℕ)
page_of terms sub [] = None
page_of terms sub (act ∷ acts) =
    Some (ledger_text sub (entries terms (act ∷ acts)) (reserved terms (act ∷ acts)) (pos (overrun terms (act ∷ acts))))

abbrev pub page_found : Option (List ℕ) → Sheet
page_found None = unknown_sheet
page_found (Some page) = sheet_of Plain 200 page
