-- Receipts that were compared with acts, to which acts are added since.
use Rattle.std.specs.Prelude.{◌≡◌, ℕ, true, ◌&&◌, List, ◌++◌}
use Rattle.dcc_tariff.specs.Terms.{TermsView}
use Rattle.dcc_message.specs.declared.identity.Identity.{Identity}
use Rattle.dcc_act.specs.declared.act.Act.{Act}
use Rattle.dcc_receipts.specs.Audit.{agrees, is_answered}
use Rattle.dcc_receipts.specs.declared.receipt.Receipt.{Receipt}

-- a receipt that agrees with acts and is answered by them does so once acts are added
abbrev pub TrueStayTrue : Type 0
TrueStayTrue = (identity : Identity) (terms : TermsView) (opened : ℕ) (all more : List Act) (r : Receipt)
    → (agrees opened all r && is_answered identity terms all r) ≡ true
    → (agrees opened (all ++ more) r && is_answered identity terms (all ++ more) r) ≡ true
