-- The tally of a page.
use Rattle.std.specs.Prelude.{List, [], ◌∷◌, length}
use Rattle.sqlite.specs.Order.{Row}
use Rattle.dcc_tariff.specs.Terms.{TermsView}
use Rattle.dcc_model.specs.Outcomes.{funds}
use Rattle.dcc_store.specs.Books.{PageView}
use Rattle.dcc_sqlite_rows.specs.Rows.{sub_octets, account_row}
use Rattle.dcc_sqlite_rows.specs.declared.tally.Tally.{Tally}

abbrev pub tally_of : TermsView → PageView → Tally
tally_of terms page = record { acts = length page.acts; funds = funds terms page.acts }

-- the rows of accounts of pages that have these tallies
abbrev pub account_rows_by : List PageView → List Tally → List Row
account_rows_by (page ∷ pages) (tally ∷ tallies) = account_row (sub_octets page.sub) tally.acts tally.funds ∷ account_rows_by pages tallies
account_rows_by _ _ = []
