-- The rows that the pages of a book make, in the order of their keys.
use Rattle.std.specs.Prelude.{◌≡◌, ◌≢◌, ℕ, zero, suc, ◌+◌, true, List, [], ◌∷◌, ◌++◌, length, map, take, drop}
use Rattle.std.specs.List.{AllByRecursion}
use Rattle.sqlite.specs.Order.{Row}
use Rattle.dcc_tariff.specs.Terms.{TermsView}
use Rattle.dcc_act.specs.declared.act.Act.{Act}
use Rattle.dcc_act.specs.declared.entry.Entry.{Entry}
use Rattle.dcc_act.specs.declared.sub.Sub.{Sub}
use Rattle.dcc_act.specs.Subs.{is_sub}
use Rattle.dcc_model.specs.Outcomes.{acts, funds}
use Rattle.dcc_model.specs.Entries.{entries}
use Rattle.dcc_act_codec.specs.Limits.{IsAct}
use Rattle.dcc_act_codec.specs.Records.{record_of}
use Rattle.dcc_store.specs.Books.{PageView}
use Rattle.dcc_sqlite_rows.specs.Rows.{sub_octets, act_row, entry_rows_of, account_row}

-- the type and the data are a subscriber's
abbrev pub IsSub : Sub → Type 0
IsSub sub = is_sub sub.kind sub.name ≡ true

-- the entries that the act at a place adds
abbrev pub entries_at : TermsView → List Act → ℕ → List Entry
entries_at terms all i = drop (length (entries terms (take i all))) (entries terms (take (i + 1) all))

-- the rows of acts that stand behind so many other acts
abbrev pub act_rows_from : List ℕ → ℕ → List Act → List Row
act_rows_from sub before [] = []
act_rows_from sub before (act ∷ more) = act_row sub (before + 1) (record_of act) ∷ act_rows_from sub (before + 1) more

-- the rows of the entries of the first so many acts
abbrev pub entry_rows_to : TermsView → List ℕ → List Act → ℕ → List Row
entry_rows_to terms sub all zero = []
entry_rows_to terms sub all (suc i) = entry_rows_to terms sub all i ++ entry_rows_of sub (i + 1) 0 (entries_at terms all i)

-- the rows of one page: of its acts, of their entries, and of the account
abbrev pub page_act_rows : PageView → List Row
page_act_rows page = act_rows_from (sub_octets page.sub) 0 page.acts

abbrev pub page_entry_rows : TermsView → PageView → List Row
page_entry_rows terms page = entry_rows_to terms (sub_octets page.sub) page.acts (length page.acts)

abbrev pub page_account_row : TermsView → PageView → Row
page_account_row terms page = account_row (sub_octets page.sub) (length page.acts) (funds terms page.acts)

-- the rows of all pages
abbrev pub book_act_rows : List PageView → List Row
book_act_rows [] = []
book_act_rows (page ∷ pages) = page_act_rows page ++ book_act_rows pages

abbrev pub book_entry_rows : TermsView → List PageView → List Row
book_entry_rows terms [] = []
book_entry_rows terms (page ∷ pages) = page_entry_rows terms page ++ book_entry_rows terms pages

abbrev pub book_account_rows : TermsView → List PageView → List Row
book_account_rows terms pages = map (page_account_row terms) pages

-- a page has acts, within their limits, of a subscriber
pub record IsPage (page : PageView) : Type 0 where
  pub is_of : IsSub page.sub
  pub some : page.acts ≢ []
  pub fit : AllByRecursion IsAct page.acts

-- the acts of a page are exactly those that its own list makes
abbrev pub IsOwn : TermsView → PageView → Type 0
IsOwn terms page = acts terms page.acts ≡ page.acts
