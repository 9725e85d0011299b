-- The pages of a subscriber: the ledger or the balance of its account, or the line of an unknown account.
use Rattle.std.specs.Prelude.{ℕ, List, [], ◌∷◌, ◌++◌, codes, ℤ, pos}
use Rattle.std.specs.Fmt.{decimal, signed_decimal}
use Rattle.dcc_tariff.specs.Terms.{TermsView}
use Rattle.dcc_act.specs.declared.act.Act.{Act}
use Rattle.dcc_act.specs.Subs.{SubView}
use Rattle.dcc_model.specs.Outcomes.{funds, free, overrun}
use Rattle.dcc_model.specs.Entries.{entries}
use Rattle.dcc_account.specs.Accounts.{reserved}
use Rattle.dcc_ledger.specs.Ledger.{ledger_text}
use Rattle.dcc_operator.specs.declared.page.Page.{Page}
use Rattle.dcc_operator.specs.declared.page.Page.TheVariants.{Ledger, Balance}

-- the line of a subscriber without acts
abbrev pub unknown_line : SubView → List ℕ
unknown_line sub = codes "account " ++ decimal sub.kind ++ codes ":" ++ sub.name ++ codes " unknown\n"

-- how an account stands, in minor units, a line for each
abbrev pub balance_text : (funds reserved free overrun : ℤ) → List ℕ
balance_text funds reserved free overrun =
    codes "funds " ++ (signed_decimal funds ++ (codes "\nreserved " ++ (signed_decimal reserved
    ++ (codes "\nfree " ++ (signed_decimal free ++ (codes "\noverrun " ++ (signed_decimal overrun ++ codes "\n")))))))

-- a page of a subscriber with these acts: the entries in the books, the reserved money, and the overrun; or the money alone
abbrev pub page_of : Page → TermsView → SubView → List Act → List ℕ
page_of page terms sub [] = unknown_line sub
page_of Ledger terms sub (act ∷ acts) =
    ledger_text sub (entries terms (act ∷ acts)) (reserved terms (act ∷ acts)) (pos (overrun terms (act ∷ acts)))
page_of Balance terms sub (act ∷ acts) =
    balance_text (funds terms (act ∷ acts)) (reserved terms (act ∷ acts)) (free terms (act ∷ acts)) (pos (overrun terms (act ∷ acts)))
